-- Number words: an optional `-`, and a fraction: one or more digits and optionally `/` with one or more digits, each part of at
-- most 18 digits. Where decimals are read too, also one or more digits, `.` and one or more digits, at most 18 together. A number
-- is a `Fraction` of the crate numbers, in lowest terms.
--   number_fault form w    why the word spells no number of this form
--   number_value w         the number, in lowest terms
--   denominator_of f       the denominator, which is positive, as a natural number
--   common_denominator fs  the least common multiple of the denominators
--   scaled d f             d · f, an integer where d is a multiple of the denominator
--   is_same_modulo_1 f g   the two differ by an integer
-- The format is our own.
use Rattle.std.specs.Prelude.{ℕ, ℤ, pos, neg_ℤ, ◌+◌, ◌*◌, ◌^◌, ◌/◌, ◌%◌, ◌*ℤ◌, ◌-ℤ◌, Bool, false, true, not, ◌==◌, ◌||◌, ◌&&◌, nat_lt, List, [], ◌∷◌, ◌++◌, length, if◌then◌else◌, unsigned_abs}
use Rattle.std.specs.List.{fold}
use Rattle.std.specs.declared.option.Option.{Option}
use Rattle.numbers.specs.Gcd.{lcm}
use Rattle.numbers.specs.Fraction.{Fraction, lowest}
use Rattle.plain_text.specs.declared.number_form.NumberForm.{NumberForm}
use Rattle.plain_text.specs.declared.number_form.NumberForm.TheVariants as forms
use Rattle.plain_text.specs.declared.fault.NumberFault.{NumberFault}
use Rattle.plain_text.specs.declared.fault.NumberFault.TheVariants.{BadNumber, NumberRange, ZeroDenominator}
use Rattle.plain_text.specs.Digits.{is_digits, value_of_digits}
use Rattle.plain_text.specs.FirstFaults.{when, first_of}

-- ---- fractions with a positive denominator

-- the size with its sign
abbrev pub signed : Bool → ℕ → ℤ
signed negative a = if negative then neg_ℤ (pos a) else pos a

-- the denominator as a natural number
abbrev pub denominator_of : Fraction → ℕ
denominator_of f = unsigned_abs f.denominator

-- the least common multiple of the denominators
abbrev pub common_denominator : List Fraction → ℕ
common_denominator fs = fold (λ d f. lcm d (denominator_of f)) 1 fs

-- d · f, where d is a multiple of the denominator
abbrev pub scaled : ℕ → Fraction → ℤ
scaled d f = f.numerator *ℤ pos (d / denominator_of f)

-- They are equal modulo 1: their difference is whole.
abbrev pub is_same_modulo_1 : Fraction → Fraction → Bool
is_same_modulo_1 f g = unsigned_abs (f.numerator *ℤ pos (denominator_of g) -ℤ g.numerator *ℤ pos (denominator_of f)) % (denominator_of f * denominator_of g) == 0

-- ---- the parts of a word

-- a `-` stands in front
abbrev pub is_negative : List ℕ → Bool
is_negative [] = false
is_negative (b ∷ word) = b == 45

-- the word behind one `-` in front, or all of it
abbrev pub without_sign : List ℕ → List ℕ
without_sign [] = []
without_sign (b ∷ word) = if b == 45 then word else b ∷ word

-- what stands before the first of these marks, or all
abbrev pub before_mark : ℕ → List ℕ → List ℕ
before_mark mark [] = []
before_mark mark (b ∷ word) = if b == mark then [] else b ∷ before_mark mark word

-- what stands behind the first of these marks; where there is none, the other text
abbrev pub behind_mark : ℕ → List ℕ → List ℕ → List ℕ
behind_mark mark other [] = other
behind_mark mark other (b ∷ word) = if b == mark then word else behind_mark mark other word

-- what stands between the sign and the `/`, or all behind the sign
abbrev pub numerator_part : List ℕ → List ℕ
numerator_part word = before_mark 47 (without_sign word)

-- what stands behind the `/`; where there is none, `1`
abbrev pub denominator_part : List ℕ → List ℕ
denominator_part word = behind_mark 47 (49 ∷ []) (without_sign word)

-- what stands between the sign and the point, or all behind the sign
abbrev pub whole_part : List ℕ → List ℕ
whole_part word = before_mark 46 (without_sign word)

-- what stands behind the point; where there is none, nothing
abbrev pub decimal_part : List ℕ → List ℕ
decimal_part word = behind_mark 46 [] (without_sign word)

-- digits, a point and digits, behind an optional sign
abbrev pub is_decimal : List ℕ → Bool
is_decimal word = is_digits (whole_part word) && is_digits (decimal_part word)

-- ---- what the word spells

-- decimals are read
abbrev pub reads_decimals : NumberForm → Bool
reads_decimals forms.Fraction = false
reads_decimals forms.FractionOrDecimal = true

-- why these two parts are no fraction: they have another form, one is too long, the denominator is 0
abbrev pub fraction_fault : List ℕ → List ℕ → Option NumberFault
fraction_fault over under = first_of
    (when (not (is_digits over && is_digits under)) BadNumber
    ∷ when (nat_lt 18 (length over) || nat_lt 18 (length under)) NumberRange
    ∷ when (value_of_digits under == 0) ZeroDenominator
    ∷ [])

-- why a decimal with these digits before and behind the point is no number: decimals are not read, there are too many digits
abbrev pub decimal_fault : NumberForm → List ℕ → List ℕ → Option NumberFault
decimal_fault form before behind = first_of
    (when (not (reads_decimals form)) BadNumber
    ∷ when (nat_lt 18 (length before + length behind)) NumberRange
    ∷ [])

-- why the word spells no number of this form
unfoldable pub number_fault : NumberForm → List ℕ → Option NumberFault
number_fault form word = if is_decimal word then decimal_fault form (whole_part word) (decimal_part word) else fraction_fault (numerator_part word) (denominator_part word)

-- the numerator: of a decimal, all its digits
abbrev pub word_numerator : List ℕ → ℕ
word_numerator word = if is_decimal word then value_of_digits (whole_part word ++ decimal_part word) else value_of_digits (numerator_part word)

-- the denominator: of a decimal, 10 for each digit behind the point
abbrev pub word_denominator : List ℕ → ℕ
word_denominator word = if is_decimal word then 10 ^ length (decimal_part word) else value_of_digits (denominator_part word)

-- the number that the word spells, in lowest terms
unfoldable pub number_value : List ℕ → Fraction
number_value word = lowest (signed (is_negative word) (word_numerator word)) (pos (word_denominator word))
