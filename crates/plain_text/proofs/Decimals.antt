-- Decimals: the value of their digits, and which words are none.
--   value-append      the digits before and behind the point, as one number
--   digits_fit, unit_fits   with 18 digits together they are below 10^18, and so is the denominator
--   no_decimal        a fraction has no point
--   number_positive   the denominator of a number is positive
use Rattle.std.proofs.Common.{◌≡◌, ℕ, zero, suc, ◌+◌, ◌-◌, ◌*◌, ◌^◌, ◌<◌, ◌≤◌, Bool, true, false, None, List, [], ◌∷◌, ◌++◌, length, refl, ap, ◌∙◌, arith, length-append}
use Rattle.std.specs.Prelude.{not, ◌==◌, ◌&&◌, if◌then◌else◌}
use Rattle.std.specs.List.{fold, list_all}
use Rattle.std.proofs.lemmas.Bool.{ne_eqb, eqb-true, and_parts, and_from}
use Rattle.std.proofs.lemmas.List.Folds.{list_all-append}
use Rattle.std.proofs.Math.Nat.{pow-suc, pow-le-pow_right}
use Rattle.plain_text.specs.declared.fault.NumberFault.TheVariants.{BadNumber, NumberRange, ZeroDenominator}
use Rattle.plain_text.specs.declared.number_form.NumberForm.{NumberForm}
use Rattle.plain_text.specs.Digits.{is_digit, is_digits, value_of_digits}
use Rattle.plain_text.specs.FirstFaults.{when, first_of}
use Rattle.plain_text.specs.NumberWords.{without_sign, before_mark, behind_mark, numerator_part, denominator_part, whole_part, decimal_part, is_decimal, fraction_fault, decimal_fault, number_fault, word_denominator}
use Rattle.plain_text.proofs.DigitLemmas.{more, digit_bounds, digits_below, fold-append}

-- ---- the value of the digits

ten_times : (v x p q w total rest : ℕ) → total ≡ (10 * v + x) * p + w → rest ≡ (10 * 0 + x) * p + w → q ≡ p * 10 → total ≡ v * q + rest
ten_times v x p q w total rest h k e = rw e (omega (arith, h, k))

-- a number in front of digits counts ten times as much for each of them
fold_from : (ds : List ℕ) (v : ℕ) → fold more v ds ≡ v * 10 ^ length ds + value_of_digits ds
fold_from [] v = omega arith
fold_from (d ∷ ds) v = ten_times v (d - 48) (10 ^ length ds) (10 ^ suc (length ds)) (value_of_digits ds) _ _ (fold_from ds (more v d)) (fold_from ds (more 0 d)) (pow-suc 10 (length ds))

-- the digits before and behind the point, as one number
pub value-append : (before behind : List ℕ) → value_of_digits (before ++ behind) ≡ value_of_digits before * 10 ^ length behind + value_of_digits behind
value-append before behind = fold-append more 0 before behind ∙ fold_from behind (value_of_digits before)

are_all : (ds : List ℕ) → is_digits ds ≡ true → list_all is_digit ds ≡ true
are_all ds e = (and_parts (not (length ds == 0)) (list_all is_digit ds) e).1

-- digits are some
pub digits_some : (ds : List ℕ) → is_digits ds ≡ true → 0 < length ds
digits_some [] e = absurd cc
digits_some (d ∷ ds) e = omega arith

-- they are at most 18 together
pub digits_fit : (before behind : List ℕ) → is_digits before ≡ true → is_digits behind ≡ true → length before + length behind ≤ 18 → value_of_digits before * 10 ^ length behind + value_of_digits behind < 10 ^ 18
digits_fit before behind e f short =
    let all = list_all-append is_digit before behind ∙ and_from (list_all is_digit before) (list_all is_digit behind) (are_all before e) (are_all behind f) in
    let below = digits_below (before ++ behind) 18 all (omega (arith, length-append before behind, short)) in
    omega (arith, below, value-append before behind)

-- one of them is before the point, so the denominator has at most 17 zeros
pub unit_fits : (before behind : List ℕ) → is_digits before ≡ true → length before + length behind ≤ 18 → 10 ^ length behind < 10 ^ 18
unit_fits before behind e short =
    let k : length behind ≤ 17 = omega (arith, digits_some before e, short) in
    let few : 10 ^ length behind ≤ 10 ^ 17 = pow-le-pow_right (omega arith) k in
    omega (arith, few)

pub unit_positive : (n : ℕ) → 0 < 10 ^ n
unit_positive n =
    let least : 0 ≤ n = omega arith in
    let h : 10 ^ 0 ≤ 10 ^ n = pow-le-pow_right (omega arith) least in
    omega (arith, h)

-- ---- words that are no decimals

no_point : (t : List ℕ) → list_all is_digit t ≡ true → behind_mark 46 [] t ≡ []
no_point [] e = refl
no_point (b ∷ t) e =
    let parts = and_parts (is_digit b) (list_all is_digit t) e in
    let low = (digit_bounds b parts.0).0 in
    rw (ne_eqb b 46 (λ same. omega (arith, same, low))) (no_point t parts.1)

parts_without_point : (t : List ℕ) → list_all is_digit (before_mark 47 t) ≡ true → list_all is_digit (behind_mark 47 (49 ∷ []) t) ≡ true → behind_mark 46 [] t ≡ []
parts_without_point [] e f = refl
parts_without_point (b ∷ t) e f = by (b == 47) refl (parts_without_point t) e f
  where
    by : (slash : Bool) → (b == 47) ≡ slash
        → (list_all is_digit (before_mark 47 t) ≡ true → list_all is_digit (behind_mark 47 (49 ∷ []) t) ≡ true → behind_mark 46 [] t ≡ [])
        → list_all is_digit (if slash then [] else b ∷ before_mark 47 t) ≡ true
        → list_all is_digit (if slash then t else behind_mark 47 (49 ∷ []) t) ≡ true
        → behind_mark 46 [] (b ∷ t) ≡ []
    by true is deeper e f = rw (ne_eqb b 46 (λ same. omega (arith, same, eqb-true b 47 is))) (no_point t f)
    by false is deeper e f =
        let parts = and_parts (is_digit b) (list_all is_digit (before_mark 47 t)) e in
        let low = (digit_bounds b parts.0).0 in
        rw (ne_eqb b 46 (λ same. omega (arith, same, low))) (deeper parts.1 f)

not_both : (b : Bool) → (b && false) ≡ false
not_both true = refl
not_both false = refl

-- a fraction is no decimal
pub no_decimal : (w : List ℕ) → is_digits (numerator_part w) ≡ true → is_digits (denominator_part w) ≡ true → is_decimal w ≡ false
no_decimal w e f =
    let none : decimal_part w ≡ [] = parts_without_point (without_sign w) (are_all (numerator_part w) e) (are_all (denominator_part w) f) in
    ap (λ (ds : List ℕ). is_digits (whole_part w) && is_digits ds) none ∙ not_both (is_digits (whole_part w))

-- ---- the denominator of a number

third : (a b : Bool) (n : ℕ) → first_of (when a BadNumber ∷ when b NumberRange ∷ when (n == 0) ZeroDenominator ∷ []) ≡ None → 0 < n
third true b n e = absurd cc
third false true n e = absurd cc
third false false zero e = absurd cc
third false false (suc n) e = omega arith

-- It is positive.
pub number_positive : (form : NumberForm) (w : List ℕ) → number_fault form w ≡ None → 0 < word_denominator w
unfolding number_fault
number_positive form w e = by (is_decimal w) e
  where
    by : (decimal : Bool) → (if decimal then decimal_fault form (whole_part w) (decimal_part w) else fraction_fault (numerator_part w) (denominator_part w)) ≡ None
        → 0 < (if decimal then 10 ^ length (decimal_part w) else value_of_digits (denominator_part w))
    by true e = unit_positive (length (decimal_part w))
    by false e = third _ _ (value_of_digits (denominator_part w)) e
