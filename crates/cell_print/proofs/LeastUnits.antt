-- The least common denominator of fractions in lowest terms is their least unit.
--
-- Let D be the least common multiple of the denominators, and let g divide D and each of the numerators in units of 1/D. Then
-- D/g times each fraction is an integer too, so each denominator divides D/g, and so does D: g is 1. A numerator modulo D has
-- the same common divisors with D.
use Rattle.std.proofs.Common.{◌≡◌, ℕ, zero, suc, ◌+◌, ◌-◌, ◌*◌, ◌/◌, ◌%◌, ◌<◌, List, [], ◌∷◌, map, sym, ap, subst, ◌∙◌, arith}
use Rattle.std.specs.Prelude.{ℤ, pos, negsuc, unsigned_abs}
use Rattle.std.specs.Int.{◌∣◌}
use Rattle.std.specs.List.{fold}
use Rattle.std.proofs.lemmas.Int.{unsigned_abs-mul}
use Rattle.std.proofs.lemmas.Nat.Gcd.{dvd_refl, dvd_trans, dvd_antisymm}
use Rattle.std.proofs.Math.Nat.{div-mul_cancel, dvd-add, dvd-add_iff_left, dvd-mul_right, dvd-mul_left_of_dvd}
use Rattle.numbers.specs.Gcd.{gcd, lcm}
use Rattle.numbers.specs.Residue.{residue}
use Rattle.numbers.proofs.GcdLemmas.{gcd_is, gcd-swap, gauss, coprime-quotients, lcm_least, lcm-multiple_left, lcm-multiple_right}
use Rattle.numbers.specs.Fraction.{Fraction}
use Rattle.plain_text.specs.NumberWords.{denominator_of, scaled, common_denominator, is_negative, word_numerator, word_denominator, number_value}
use Rattle.plain_text.proofs.Multiples.{parts-positive, lcm-positive}
use Rattle.plain_text.proofs.Signs.{signed-size, number_value-parts}
use Rattle.cell_print.specs.Printable.{divisor_with}
use Rattle.cell_print.proofs.CommonDenominators.{AllDivisible, one-divides, cancel}

-- a positive denominator that has no divisor in common with the numerator
pub record IsLowest (f : Fraction) : Type 0 where
  pub positive : 0 < (denominator_of f)
  pub lowest : gcd (unsigned_abs f.numerator) (denominator_of f) ≡ 1

-- something holds of each
abbrev pub Each : (Fraction → Type 0) → List Fraction → Type 0
Each P [] = Unit {0}
Each P (f ∷ fs) = P f × Each P fs

-- the value of a word is in lowest terms
pub value_lowest : (w : List ℕ) → 0 < word_denominator w → IsLowest (number_value w)
value_lowest w some =
    let a = word_numerator w in
    let b = word_denominator w in
    subst IsLowest (sym (number_value-parts w)) (record {
      positive = parts-positive a b some;
      lowest = ap (λ (n : ℕ). gcd n (b / gcd a b)) (signed-size (is_negative w) (a / gcd a b)) ∙ coprime-quotients a b some;
    })

-- ---- the least common multiple

abbrev grown_by : ℕ → List Fraction → ℕ
grown_by start fs = fold (λ d f. lcm d (denominator_of f)) start fs

grown-least : (m start : ℕ) (fs : List Fraction) → Each IsLowest fs → start ∣ m → Each (λ f. (denominator_of f) ∣ m) fs → grown_by start fs ∣ m
grown-least m start [] l h d = h
grown-least m start (f ∷ fs) l h d = grown-least m (lcm start (denominator_of f)) fs l.1 (lcm_least start (denominator_of f) m l.0.positive h d.0) d.1

grown-start : (start : ℕ) (fs : List Fraction) → start ∣ grown_by start fs
grown-start start [] = dvd_refl start
grown-start start (f ∷ fs) = dvd_trans start (lcm-multiple_left start (denominator_of f)) (grown-start (lcm start (denominator_of f)) fs)

grown-parts : (start : ℕ) (fs : List Fraction) → Each (λ f. (denominator_of f) ∣ grown_by start fs) fs
grown-parts start [] = tt
grown-parts start (f ∷ fs) = (dvd_trans (denominator_of f) (lcm-multiple_right start (denominator_of f)) (grown-start (lcm start (denominator_of f)) fs), grown-parts (lcm start (denominator_of f)) fs)

grown-positive : (start : ℕ) (fs : List Fraction) → 0 < start → Each IsLowest fs → 0 < grown_by start fs
grown-positive start [] some l = some
grown-positive start (f ∷ fs) some l = grown-positive (lcm start (denominator_of f)) fs (lcm-positive start (denominator_of f) some l.0.positive) l.1

-- ---- a common divisor

turned : (g d t a q rest whole : ℕ) → t * g ≡ a * q → q * d ≡ whole → g * rest ≡ whole → g * (d * t) ≡ g * (a * rest)
turned g d t a q rest whole e f h =
    let one : g * (d * t) ≡ d * (t * g) = omega arith in
    let two : d * (a * q) ≡ a * (q * d) = omega arith in
    let three : a * (g * rest) ≡ g * (a * rest) = omega arith in
    one ∙ ap (λ (n : ℕ). d * n) e ∙ two ∙ ap (λ (n : ℕ). a * n) (f ∙ sym h) ∙ three

-- where g · rest is D, a denominator divides the rest
part-divides_rest : (whole g rest : ℕ) (f : Fraction) → IsLowest f → 0 < g → g * rest ≡ whole → (denominator_of f) ∣ whole → g ∣ unsigned_abs (scaled whole f) → (denominator_of f) ∣ rest
part-divides_rest whole g rest f l some split part h =
    let a = unsigned_abs f.numerator in
    let q = whole / (denominator_of f) in
    let size : unsigned_abs (scaled whole f) ≡ a * q = unsigned_abs-mul f.numerator (pos q) in
    let t = a * q / g in
    let times : t * g ≡ a * q = div-mul_cancel g (subst (λ n. g ∣ n) size h) in
    let same : (denominator_of f) * t ≡ a * rest = cancel g ((denominator_of f) * t) (a * rest) some (turned g (denominator_of f) t a q rest whole times (div-mul_cancel (denominator_of f) part) split) in
    gauss (denominator_of f) a rest (gcd-swap (denominator_of f) a ∙ l.lowest) (subst (λ n. (denominator_of f) ∣ n) same (dvd-mul_right (denominator_of f) t))

parts-divide_rest : (whole g rest : ℕ) (fs : List Fraction) → Each IsLowest fs → 0 < g → g * rest ≡ whole → Each (λ f. (denominator_of f) ∣ whole) fs → Each (λ f. g ∣ unsigned_abs (scaled whole f)) fs → Each (λ f. (denominator_of f) ∣ rest) fs
parts-divide_rest whole g rest [] l some split parts h = tt
parts-divide_rest whole g rest (f ∷ fs) l some split parts h = (part-divides_rest whole g rest f l.0 some split parts.0 h.0, parts-divide_rest whole g rest fs l.1 some split parts.1 h.1)

some_divisor : (g whole : ℕ) → whole / g * g ≡ whole → 0 < whole → 0 < g
some_divisor zero whole e some = absurd (omega (arith, e, some))
some_divisor (suc g) whole e some = omega arith

some_rest : (g rest whole : ℕ) → g * rest ≡ whole → 0 < whole → 0 < rest
some_rest g zero whole e some = absurd (omega (arith, e, some))
some_rest g (suc rest) whole e some = omega arith

-- what divides the common denominator and each numerator in its units is 1
pub least_unit : (fs : List Fraction) → Each IsLowest fs → (g : ℕ) → g ∣ common_denominator fs → Each (λ f. g ∣ unsigned_abs (scaled (common_denominator fs) f)) fs → g ≡ 1
least_unit fs l g h each =
    let whole = grown_by 1 fs in
    let some = grown-positive 1 fs (omega arith) l in
    let rest = whole / g in
    let back : rest * g ≡ whole = div-mul_cancel g h in
    let split : g * rest ≡ whole = omega (arith, back) in
    let positive = some_divisor g whole back some in
    let up : whole ∣ rest = grown-least rest 1 fs l (one-divides rest) (parts-divide_rest whole g rest fs l positive split (grown-parts 1 fs) each) in
    let down : rest ∣ whole = subst (λ n. rest ∣ n) back (dvd-mul_right rest g) in
    let same : whole ≡ rest = dvd_antisymm up down in
    let once : rest * g ≡ rest * 1 = back ∙ same ∙ omega arith in
    cancel rest g 1 (some_rest g rest whole split some) once

-- ---- greatest common divisors

pub divisor-start : (d : ℕ) (zs : List ℤ) → divisor_with d zs ∣ d
divisor-start d [] = dvd_refl d
divisor-start d (z ∷ zs) = dvd_trans _ (divisor-start (gcd d (unsigned_abs z)) zs) (gcd_is d (unsigned_abs z)).0

pub divisor-each : (d : ℕ) (zs : List ℤ) → AllDivisible (divisor_with d zs) zs
divisor-each d [] = tt
divisor-each d (z ∷ zs) = (dvd_trans _ (divisor-start (gcd d (unsigned_abs z)) zs) (gcd_is d (unsigned_abs z)).1, divisor-each (gcd d (unsigned_abs z)) zs)

each_of_map : (g whole : ℕ) (fs : List Fraction) → AllDivisible g (map (scaled whole) fs) → Each (λ f. g ∣ unsigned_abs (scaled whole f)) fs
each_of_map g whole [] h = tt
each_of_map g whole (f ∷ fs) h = (h.0, each_of_map g whole fs h.1)

-- the numerators in units of the common denominator have no divisor in common with it
pub least_numerators : (fs : List Fraction) → Each IsLowest fs → divisor_with (common_denominator fs) (map (scaled (common_denominator fs)) fs) ≡ 1
least_numerators fs l =
    let d = common_denominator fs in
    let zs = map (scaled d) fs in
    least_unit fs l (divisor_with d zs) (divisor-start d zs) (each_of_map (divisor_with d zs) d fs (divisor-each d zs))

-- ---- residues

quotient_more : (a q r m : ℕ) → q * m + r ≡ a → r < m → suc a + (m - 1 - r) ≡ (q + 1) * m
quotient_more a q r m e h = omega (arith, e, h)

-- a common divisor of m and z modulo m divides z
pub residue_divisor : (m g : ℕ) (z : ℤ) → g ∣ m → g ∣ unsigned_abs (residue m z) → g ∣ unsigned_abs z
unfolding residue
residue_divisor zero g z h k = k
residue_divisor (suc m) g (pos a) h k =
    let e : a / suc m * suc m + a % suc m ≡ a = omega arith in
    subst (λ n. g ∣ n) e (dvd-add g (dvd-mul_left_of_dvd g h (a / suc m)) k)
residue_divisor (suc m) g (negsuc a) h k =
    let e : suc a + (suc m - 1 - a % suc m) ≡ (a / suc m + 1) * suc m = quotient_more a (a / suc m) (a % suc m) (suc m) (omega arith) (omega arith) in
    (dvd-add_iff_left g k).1 (subst (λ n. g ∣ n) (sym e) (dvd-mul_left_of_dvd g h (a / suc m + 1)))
