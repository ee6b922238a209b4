-- Printed numbers, read back.
--
-- The digits of a number have its value. A printed number is a sign, the digits of the numerator and, behind a slash,
-- those of the denominator, where it is not 1. Its parts are coprime, so reading leaves them as they are.
use Rattle.std.proofs.Common.{◌≡◌, ℕ, zero, suc, ◌+◌, ◌-◌, ◌*◌, ◌/◌, ◌%◌, ◌^◌, ◌<◌, ◌≤◌, Bool, true, false, List, [], ◌∷◌, ◌++◌, length, refl, ap, ◌∙◌, arith, append-nil, length-append, Option, None, ltb, leb, div-le_self}
use Rattle.std.specs.Prelude.{ℤ, pos, negsuc, unsigned_abs, ◌&&◌, ◌||◌, not, ◌==◌, if◌then◌else◌}
use Rattle.std.specs.List.{list_all}
use Rattle.std.specs.Fmt.{decimal as printed}
use Rattle.std.proofs.lemmas.Bool.{ne_eqb, le-leb, le-ltb, and_parts, and_from, not_from_false}
use Rattle.std.proofs.lemmas.Fmt.{decimal_by_steps, length-decimal-le}
use Rattle.std.proofs.lemmas.List.Folds.{list_all-append}
use Rattle.numbers.specs.Gcd.{gcd}
use Rattle.numbers.proofs.GcdLemmas.{coprime-quotients}
use Rattle.plain_text.specs.declared.number_form.NumberForm.{NumberForm}
use Rattle.plain_text.specs.declared.fault.NumberFault.{NumberFault}
use Rattle.plain_text.specs.declared.fault.NumberFault.TheVariants.{BadNumber, NumberRange, ZeroDenominator}
use Rattle.numbers.specs.Fraction.{Fraction, fraction}
use Rattle.plain_text.specs.Digits.{is_digit, is_digits, value_of_digits}
use Rattle.plain_text.specs.FirstFaults.{when, first_of}
use Rattle.plain_text.specs.NumberWords.{signed, is_negative, without_sign, before_mark, behind_mark, numerator_part, denominator_part, whole_part, decimal_part, is_decimal, fraction_fault, decimal_fault, word_numerator, word_denominator, number_fault, number_value}
use Rattle.plain_text.proofs.DigitLemmas.{more, digit_bounds, fold-append}
use Rattle.plain_text.proofs.Decimals.{no_decimal}
use Rattle.plain_text.proofs.Multiples.{parts-positive}
use Rattle.plain_text.proofs.Signs.{number_value-parts}
use Rattle.plain_text.specs.NumberText.{denominator_text, number_text}

-- ---- digits

-- digits that spell n
record IsPrinted (n : ℕ) (ds : List ℕ) : Type 0 where
  pub some : 0 < length ds
  pub digits : list_all is_digit ds ≡ true
  pub value : value_of_digits ds ≡ n

one_digit : (d : ℕ) → d < 10 → list_all is_digit ((48 + d) ∷ []) ≡ true
one_digit d h = and_from (is_digit (48 + d)) true (and_from (leb 48 (48 + d)) (leb (48 + d) 57) (le-leb 48 (48 + d) (omega arith)) (le-leb (48 + d) 57 (omega arith))) refl

printed_is : (n : ℕ) → n < 2 ^ 64 → IsPrinted n (printed n)
printed_is n h = decimal_by_steps IsPrinted one step n h
  where
    one : (n : ℕ) → n < 10 → IsPrinted n ((48 + n) ∷ [])
    one n h = record { some = omega arith; digits = one_digit n h; value = omega arith }

    last : (v n : ℕ) → v ≡ n / 10 → 10 * v + ((48 + n % 10) - 48) ≡ n
    last v n e = omega (arith, e)

    step : (n : ℕ) (ds : List ℕ) → 10 ≤ n → IsPrinted (n / 10) ds → IsPrinted n (ds ++ ((48 + n % 10) ∷ []))
    step n ds h p = record {
      some = omega (arith, length-append ds ((48 + n % 10) ∷ []), p.some);
      digits = list_all-append is_digit ds ((48 + n % 10) ∷ []) ∙ and_from (list_all is_digit ds) (list_all is_digit ((48 + n % 10) ∷ [])) p.digits (one_digit (n % 10) (omega arith));
      value = fold-append more 0 ds ((48 + n % 10) ∷ []) ∙ last (value_of_digits ds) n p.value;
    }

-- ---- the parts of a word

before_digits : (ds rest : List ℕ) → list_all is_digit ds ≡ true → before_mark 47 (ds ++ rest) ≡ ds ++ before_mark 47 rest
before_digits [] rest e = refl
before_digits (b ∷ ds) rest e =
    let parts = and_parts (is_digit b) (list_all is_digit ds) e in
    let low = (digit_bounds b parts.0).0 in
    rw (ne_eqb b 47 (λ same. omega (arith, same, low))) (ap (λ (p : List ℕ). b ∷ p) (before_digits ds rest parts.1))

after_digits : (ds rest : List ℕ) → list_all is_digit ds ≡ true → behind_mark 47 (49 ∷ []) (ds ++ rest) ≡ behind_mark 47 (49 ∷ []) rest
after_digits [] rest e = refl
after_digits (b ∷ ds) rest e =
    let parts = and_parts (is_digit b) (list_all is_digit ds) e in
    let low = (digit_bounds b parts.0).0 in
    rw (ne_eqb b 47 (λ same. omega (arith, same, low))) (after_digits ds rest parts.1)

no_sign : (ds rest : List ℕ) → 0 < length ds → list_all is_digit ds ≡ true → (without_sign (ds ++ rest) ≡ ds ++ rest) × (is_negative (ds ++ rest) ≡ false)
no_sign [] rest h e = absurd (omega arith)
no_sign (b ∷ ds) rest h e =
    let parts = and_parts (is_digit b) (list_all is_digit ds) e in
    let low = (digit_bounds b parts.0).0 in
    let other = ne_eqb b 45 (λ same. omega (arith, same, low)) in
    (rw other refl, other)

-- the denominator, as it is read
abbrev denominator_word : ℕ → List ℕ
denominator_word q = behind_mark 47 (49 ∷ []) (denominator_text q)

front : (q : ℕ) → before_mark 47 (denominator_text q) ≡ []
front zero = refl
front (suc zero) = refl
front (suc (suc q)) = refl

denominator_is : (q : ℕ) → 0 < q → q < 10 ^ 18 → IsPrinted q (denominator_word q) × (length (denominator_word q) ≤ 18)
denominator_is zero h small = absurd (omega arith)
denominator_is (suc zero) h small = (record { some = omega arith; digits = refl; value = refl }, omega arith)
denominator_is (suc (suc q)) h small = (printed_is (suc (suc q)) (omega arith), length-decimal-le 18 (suc (suc q)) (omega arith) small (omega arith))

-- the sign, the numerator and the denominator of a word
record HasParts (negative : Bool) (p q : ℕ) (word : List ℕ) : Type 0 where
  pub sign : is_negative word ≡ negative
  pub top : numerator_part word ≡ printed p
  pub bottom : denominator_part word ≡ denominator_word q

abbrev size_word : ℕ → ℕ → List ℕ
size_word p q = printed p ++ denominator_text q

size_top : (p q : ℕ) → p < 10 ^ 18 → before_mark 47 (size_word p q) ≡ printed p
size_top p q h = before_digits (printed p) (denominator_text q) (printed_is p (omega arith)).digits ∙ ap (λ (z : List ℕ). printed p ++ z) (front q) ∙ append-nil (printed p)

size_bottom : (p q : ℕ) → p < 10 ^ 18 → behind_mark 47 (49 ∷ []) (size_word p q) ≡ denominator_word q
size_bottom p q h = after_digits (printed p) (denominator_text q) (printed_is p (omega arith)).digits

positive_parts : (p q : ℕ) → p < 10 ^ 18 → HasParts false p q (size_word p q)
positive_parts p q h =
    let is = printed_is p (omega arith) in
    let plain = no_sign (printed p) (denominator_text q) is.some is.digits in
    record { sign = plain.1; top = ap (before_mark 47) plain.0 ∙ size_top p q h; bottom = ap (behind_mark 47 (49 ∷ [])) plain.0 ∙ size_bottom p q h }

negative_parts : (p q : ℕ) → p < 10 ^ 18 → HasParts true p q (45 ∷ size_word p q)
negative_parts p q h = record { sign = refl; top = size_top p q h; bottom = size_bottom p q h }

-- ---- what the word spells

digits_are : (n : ℕ) (ds : List ℕ) → IsPrinted n ds → is_digits ds ≡ true
digits_are n ds p = and_from (not (length ds == 0)) (list_all is_digit ds) (not_from_false (length ds == 0) (ne_eqb (length ds) 0 (λ e. omega (arith, e, p.some)))) p.digits

no_fault : (a b c d e : Bool) → a ≡ true → b ≡ true → c ≡ false → d ≡ false → e ≡ false → first_of (when (not (a && b)) BadNumber ∷ when (c || d) NumberRange ∷ when e ZeroDenominator ∷ []) ≡ None
no_fault a b c d e ea eb ec ed ee = rw (ea, eb, ec, ed, ee) refl

-- the parts of a printed number are digits
record AreDigits (w : List ℕ) : Type 0 where
  pub top : is_digits (numerator_part w) ≡ true
  pub bottom : is_digits (denominator_part w) ≡ true

parts-digits : (s : Bool) (p q : ℕ) (w : List ℕ) → HasParts s p q w → 0 < q → p < 10 ^ 18 → q < 10 ^ 18 → AreDigits w
parts-digits s p q w h some small_p small_q = record {
  top = ap is_digits h.top ∙ digits_are p (printed p) (printed_is p (omega arith));
  bottom = ap is_digits h.bottom ∙ digits_are q (denominator_word q) (denominator_is q some small_q).0;
}

-- a word that is no decimal
abbrev fault_of : NumberForm → List ℕ → Bool → Option NumberFault
fault_of form w decimal_word = if decimal_word then decimal_fault form (whole_part w) (decimal_part w) else fraction_fault (numerator_part w) (denominator_part w)

parts-no_fault : (form : NumberForm) (s : Bool) (p q : ℕ) (w : List ℕ) → HasParts s p q w → 0 < q → p < 10 ^ 18 → q < 10 ^ 18 → number_fault form w ≡ None
unfolding number_fault
parts-no_fault form s p q w h some small_p small_q =
    let top = printed_is p (omega arith) in
    let bottom = denominator_is q some small_q in
    let digits = parts-digits s p q w h some small_p small_q in
    ap (fault_of form w) (no_decimal w digits.top digits.bottom)
    ∙ no_fault _ _ _ _ _ digits.top digits.bottom
    (ap (λ (ds : List ℕ). ltb 18 (length ds)) h.top ∙ le-ltb 18 (length (printed p)) (length-decimal-le 18 p (omega arith) small_p (omega arith)))
    (ap (λ (ds : List ℕ). ltb 18 (length ds)) h.bottom ∙ le-ltb 18 (length (denominator_word q)) bottom.1)
    (ap (λ (ds : List ℕ). value_of_digits ds == 0) h.bottom ∙ ap (λ (n : ℕ). n == 0) bottom.0.value ∙ ne_eqb q 0 (λ e. omega (arith, e, some)))

numerator_is : (w : List ℕ) → is_decimal w ≡ false → word_numerator w ≡ value_of_digits (numerator_part w)
numerator_is w e = ap (λ (d : Bool). if d then value_of_digits (whole_part w ++ decimal_part w) else value_of_digits (numerator_part w)) e

denominator_word_is : (w : List ℕ) → is_decimal w ≡ false → word_denominator w ≡ value_of_digits (denominator_part w)
denominator_word_is w e = ap (λ (d : Bool). if d then 10 ^ length (decimal_part w) else value_of_digits (denominator_part w)) e

parts-value : (s : Bool) (p q : ℕ) (w : List ℕ) → HasParts s p q w → gcd p q ≡ 1 → 0 < q → p < 10 ^ 18 → q < 10 ^ 18 → number_value w ≡ fraction (signed s p) (pos q)
parts-value s p q w h coprime some small_p small_q =
    let top = printed_is p (omega arith) in
    let bottom = denominator_is q some small_q in
    let digits = parts-digits s p q w h some small_p small_q in
    let fraction_word = no_decimal w digits.top digits.bottom in
    number_value-parts w
    ∙ ap (λ (b : Bool). parts b (word_numerator w) (word_denominator w)) h.sign
    ∙ ap (λ (n : ℕ). parts s n (word_denominator w)) (numerator_is w fraction_word ∙ ap value_of_digits h.top ∙ top.value)
    ∙ ap (λ (n : ℕ). parts s p n) (denominator_word_is w fraction_word ∙ ap value_of_digits h.bottom ∙ bottom.0.value)
    ∙ ap (λ (g : ℕ). made (p / g) (q / g)) coprime ∙ ap (λ (n : ℕ). made n (q / 1)) one_p ∙ ap (λ (n : ℕ). made p n) one_q
  where
    made : ℕ → ℕ → Fraction
    made n d = fraction (signed s n) (pos d)

    parts : Bool → ℕ → ℕ → Fraction
    parts b n d = fraction (signed b (n / gcd n d)) (pos (d / gcd n d))

    one_p : p / 1 ≡ p
    one_p = omega arith

    one_q : q / 1 ≡ q
    one_q = omega arith

-- ---- printed numbers

-- whether a sign is printed
abbrev pub is_below_zero : ℤ → Bool
is_below_zero (pos a) = false
is_below_zero (negsuc a) = true

-- z/d in lowest terms
abbrev pub reduced : ℕ → ℤ → Fraction
reduced d z = fraction (signed (is_below_zero z) (unsigned_abs z / gcd (unsigned_abs z) d)) (pos (d / gcd (unsigned_abs z) d))

small_part : (a g : ℕ) → a < 10 ^ 18 → a / g < 10 ^ 18
small_part a g h = omega (arith, h, div-le_self a g)

number_parts : (z : ℤ) (d : ℕ) → unsigned_abs z < 10 ^ 18 → HasParts (is_below_zero z) (unsigned_abs z / gcd (unsigned_abs z) d) (d / gcd (unsigned_abs z) d) (number_text z d)
unfolding number_text
number_parts (pos a) d h = positive_parts (a / gcd a d) (d / gcd a d) (small_part a (gcd a d) h)
number_parts (negsuc a) d h = negative_parts (suc a / gcd (suc a) d) (d / gcd (suc a) d) (small_part (suc a) (gcd (suc a) d) h)

-- A printed number is one, whatever the form.
pub number_text-no_fault : (form : NumberForm) (z : ℤ) (d : ℕ) → 0 < d → unsigned_abs z < 10 ^ 18 → d < 10 ^ 18 → number_fault form (number_text z d) ≡ None
number_text-no_fault form z d some small_z small_d =
    parts-no_fault form _ _ _ (number_text z d) (number_parts z d small_z) (parts-positive (unsigned_abs z) d some) (small_part _ _ small_z) (small_part _ _ small_d)

-- A printed number has the value z/d.
pub number_text-value : (z : ℤ) (d : ℕ) → 0 < d → unsigned_abs z < 10 ^ 18 → d < 10 ^ 18 → number_value (number_text z d) ≡ reduced d z
number_text-value z d some small_z small_d =
    parts-value _ _ _ (number_text z d) (number_parts z d small_z) (coprime-quotients (unsigned_abs z) d some) (parts-positive (unsigned_abs z) d some) (small_part _ _ small_z) (small_part _ _ small_d)

-- ---- the bytes of a printed number

-- a byte of a word: from `!` to `~`
abbrev pub is_word_byte : ℕ → Bool
is_word_byte b = leb 33 b && leb b 126

-- bytes of a word, at least one
pub record IsWord (w : List ℕ) : Type 0 where
  pub some : 0 < length w
  pub bytes : list_all is_word_byte w ≡ true

digits-bytes : (ds : List ℕ) → list_all is_digit ds ≡ true → list_all is_word_byte ds ≡ true
digits-bytes [] e = refl
digits-bytes (b ∷ ds) e =
    let parts = and_parts (is_digit b) (list_all is_digit ds) e in
    let bounds = digit_bounds b parts.0 in
    and_from (is_word_byte b) (list_all is_word_byte ds) (and_from (leb 33 b) (leb b 126) (le-leb 33 b (omega (arith, bounds.0))) (le-leb b 126 (omega (arith, bounds.1)))) (digits-bytes ds parts.1)

denominator-bytes : (q : ℕ) → q < 10 ^ 18 → list_all is_word_byte (denominator_text q) ≡ true
denominator-bytes zero h = refl
denominator-bytes (suc zero) h = refl
denominator-bytes (suc (suc q)) h = digits-bytes (printed (suc (suc q))) (printed_is (suc (suc q)) (omega arith)).digits

size_word-is : (p q : ℕ) → p < 10 ^ 18 → q < 10 ^ 18 → IsWord (size_word p q)
size_word-is p q hp hq =
    let is = printed_is p (omega arith) in
    record {
      some = omega (arith, length-append (printed p) (denominator_text q), is.some);
      bytes = list_all-append is_word_byte (printed p) (denominator_text q) ∙ and_from _ _ (digits-bytes (printed p) is.digits) (denominator-bytes q hq);
    }

-- A printed number is a word.
pub number_text-is_word : (z : ℤ) (d : ℕ) → unsigned_abs z < 10 ^ 18 → d < 10 ^ 18 → IsWord (number_text z d)
unfolding number_text
number_text-is_word (pos a) d hz hd = size_word-is _ _ (small_part a (gcd a d) hz) (small_part d (gcd a d) hd)
number_text-is_word (negsuc a) d hz hd = record { some = omega arith; bytes = (size_word-is _ _ (small_part (suc a) (gcd (suc a) d) hz) (small_part d (gcd (suc a) d) hd)).bytes }
