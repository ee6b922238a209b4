-- Lines, words and numbers at a few values.
use Rattle.std.specs.Prelude.{◌≡◌, ℕ, List, [], ◌∷◌, ◌++◌, map, Some, None, pos, negsuc, true, false, codes, replicate}
use Rattle.std.proofs.Common.{refl, ap₂, lit<}
use Rattle.std.proofs.lemmas.Fmt.{decimal_digit}
use Rattle.numbers.specs.Gcd.{gcd, lcm}
use Rattle.numbers.specs.Fraction.{fraction, lowest}
use Rattle.plain_text.specs.declared.number_form.NumberForm.TheVariants.{Fraction, FractionOrDecimal}
use Rattle.plain_text.specs.declared.fault.NumberFault.TheVariants.{BadNumber, NumberRange, ZeroDenominator}
use Rattle.plain_text.specs.Text.{lines, words, words_between_spaces, has_bad_byte}
use Rattle.plain_text.specs.Digits.{count_of}
use Rattle.plain_text.specs.NumberWords.{number_fault, number_value, common_denominator, scaled, is_same_modulo_1}
use Rattle.plain_text.specs.NumberText.{number_text}

-- ---- text

-- LF and CR LF end a line, the last may have no end, and a CR elsewhere stays
lines_of_both_kinds : lines (codes "a\r\n\nb\rc\r\r\nd") ≡ codes "a" ∷ [] ∷ codes "b\rc\r" ∷ codes "d" ∷ []
lines_of_both_kinds = refl

lines_of_nothing : lines [] ≡ []
lines_of_nothing = refl

words_of_a_line : words (codes " atom\tMn  0 ") ≡ codes "atom" ∷ codes "Mn" ∷ codes "0" ∷ []
words_of_a_line = refl

-- a tab is no space
words_of_a_symbol : words_between_spaces (codes " -P  4\t2 ") ≡ codes "-P" ∷ codes "4\t2" ∷ []
words_of_a_symbol = refl

plain_line : has_bad_byte (codes "\t ~") ≡ false
unfolding has_bad_byte
plain_line = refl

-- the byte behind `~`
line_with_delete : has_bad_byte (127 ∷ []) ≡ true
unfolding has_bad_byte
line_with_delete = refl

-- ---- counts

nine_digits : count_of (codes "000000042") ≡ Some 42
nine_digits = refl

ten_digits : count_of (codes "0000000042") ≡ None
ten_digits = refl

no_digits : count_of [] ≡ None
no_digits = refl

signed_count : count_of (codes "+1") ≡ None
signed_count = refl

-- ---- number words

-- -6/4 is -3/2
minus_six_quarters : number_value (codes "-6/4") ≡ fraction (negsuc 2) (pos 2)
unfolding number_value lowest gcd
minus_six_quarters = refl

minus_zero : number_value (codes "-0") ≡ fraction (pos 0) (pos 1)
unfolding number_value lowest gcd
minus_zero = refl

two_quarters : number_fault Fraction (codes "2/4") ≡ None
unfolding number_fault
two_quarters = refl

-- a sign alone, a plus, a point, two slashes, and the sign of a denominator
sign_alone : number_fault Fraction (codes "-") ≡ Some BadNumber
unfolding number_fault
sign_alone = refl

plus_sign : number_fault Fraction (codes "+1") ≡ Some BadNumber
unfolding number_fault
plus_sign = refl

decimal_point : number_fault Fraction (codes "0.5") ≡ Some BadNumber
unfolding number_fault
decimal_point = refl

two_slashes : number_fault Fraction (codes "1/2/3") ≡ Some BadNumber
unfolding number_fault
two_slashes = refl

negative_denominator : number_fault Fraction (codes "1/-2") ≡ Some BadNumber
unfolding number_fault
negative_denominator = refl

eighteen_digits : number_fault Fraction (replicate 18 57) ≡ None
unfolding number_fault
eighteen_digits = refl

nineteen_digits : number_fault Fraction (replicate 19 48) ≡ Some NumberRange
unfolding number_fault
nineteen_digits = refl

-- a part that is too long is told before a denominator of 0
long_over_zero : number_fault Fraction (replicate 19 49 ++ codes "/0") ≡ Some NumberRange
unfolding number_fault
long_over_zero = refl

over_zero : number_fault Fraction (codes "0/00") ≡ Some ZeroDenominator
unfolding number_fault
over_zero = refl

-- ---- decimals

-- 0.25 is 1/4
a_quarter : number_value (codes "0.25") ≡ fraction (pos 1) (pos 4)
unfolding number_value lowest gcd
a_quarter = refl

-- -12.50 is -25/2
minus_twelve_and_a_half : number_value (codes "-12.50") ≡ fraction (negsuc 24) (pos 2)
unfolding number_value lowest gcd
minus_twelve_and_a_half = refl

minus_zero_point_zero : number_value (codes "-0.0") ≡ fraction (pos 0) (pos 1)
unfolding number_value lowest gcd
minus_zero_point_zero = refl

decimals : map (number_fault FractionOrDecimal) (codes "0.25" ∷ codes "-12.50" ∷ codes "-0.0" ∷ codes "007.0" ∷ codes "3" ∷ codes "-1/2" ∷ []) ≡ replicate 6 None
unfolding number_fault
decimals = refl

-- a point at an end, two points, a fraction of decimals, an exponent, and a sign behind the point
no_decimals : map (number_fault FractionOrDecimal) (codes "1." ∷ codes ".5" ∷ codes "." ∷ codes "-.5" ∷ codes "1.2.3" ∷ codes "1.5/2" ∷ codes "1/2.5" ∷ codes "1e3" ∷ codes "1.5e3" ∷ codes "1.-5" ∷ codes "+1.5" ∷ codes "1,5" ∷ []) ≡ replicate 12 (Some BadNumber)
unfolding number_fault
no_decimals = refl

-- where fractions alone are read, these have a wrong form, however long they are
decimals_among_fractions : map (number_fault Fraction) (codes "-12.50" ∷ codes "0.0" ∷ (codes "0." ++ replicate 30 48) ∷ []) ≡ replicate 3 (Some BadNumber)
unfolding number_fault
decimals_among_fractions = refl

-- 18 digits, and zeros at both ends are digits
eighteen_digits_around_the_point : map (number_fault FractionOrDecimal) ((codes "0." ++ replicate 17 57) ∷ (replicate 17 57 ++ codes ".0") ∷ (codes "-" ++ replicate 9 48 ++ codes "." ++ replicate 9 48) ∷ []) ≡ replicate 3 None
unfolding number_fault
eighteen_digits_around_the_point = refl

-- 19 of them, 18 of which may be behind the point or in front of it
nineteen_digits_around_the_point : map (number_fault FractionOrDecimal) ((codes "0." ++ replicate 18 57) ∷ (replicate 18 57 ++ codes ".0") ∷ (codes "-" ++ replicate 10 48 ++ codes "." ++ replicate 9 48) ∷ []) ≡ replicate 3 (Some NumberRange)
unfolding number_fault
nineteen_digits_around_the_point = refl

-- where decimals are read, fractions are too
long_fraction_among_decimals : number_fault FractionOrDecimal (replicate 19 49 ++ codes "/0") ≡ Some NumberRange
unfolding number_fault
long_fraction_among_decimals = refl

over_zero_among_decimals : number_fault FractionOrDecimal (codes "0/00") ≡ Some ZeroDenominator
unfolding number_fault
over_zero_among_decimals = refl

-- ---- fractions

-- 1/4, -5/6 and 2 have the common denominator 12, and -5/6 is -10/12
twelfths : common_denominator (fraction (pos 1) (pos 4) ∷ fraction (negsuc 4) (pos 6) ∷ fraction (pos 2) (pos 1) ∷ []) ≡ 12
unfolding lcm gcd
twelfths = refl

minus_ten_twelfths : scaled 12 (fraction (negsuc 4) (pos 6)) ≡ negsuc 9
minus_ten_twelfths = refl

-- -2/3 and 1/3 differ by an integer, 1/2 and 1/3 do not
thirds_apart_by_one : is_same_modulo_1 (fraction (negsuc 1) (pos 3)) (fraction (pos 1) (pos 3)) ≡ true
thirds_apart_by_one = refl

half_and_third : is_same_modulo_1 (fraction (pos 1) (pos 2)) (fraction (pos 1) (pos 3)) ≡ false
half_and_third = refl

-- ---- printed numbers

-- -6/4 is -3/2
text_of_minus_six_quarters : number_text (negsuc 5) 4 ≡ codes "-3/2"
unfolding number_text gcd
text_of_minus_six_quarters = ap₂ (λ (p q : List ℕ). codes "-" ++ (p ++ (codes "/" ++ q))) (decimal_digit 3 (lit< tt)) (decimal_digit 2 (lit< tt))

-- 8/4 is 2
text_of_eight_quarters : number_text (pos 8) 4 ≡ codes "2"
unfolding number_text gcd
text_of_eight_quarters = ap₂ (λ (p q : List ℕ). p ++ q) (decimal_digit 2 (lit< tt)) refl
