-- Least common denominators of printed numbers.
--
-- z/d in lowest terms has the denominator d / gcd(z, d), which divides d. Let L be the least common multiple of these, so
-- d = m L. From d / gcd(z, d) dividing L, m divides gcd(z, d), and so each z. Where the numbers and d have no common
-- divisor, m is 1 and L is d.
use Rattle.std.proofs.Common.{◌≡◌, ℕ, ◌*◌, ◌/◌, ◌<◌, ◌≤◌, List, [], ◌∷◌, map, refl, sym, ap, subst, ◌∙◌, arith}
use Rattle.std.specs.Prelude.{ℤ, pos, negsuc, ◌*ℤ◌, unsigned_abs}
use Rattle.std.specs.Int.{◌∣◌}
use Rattle.std.specs.List.{fold}
use Rattle.std.proofs.lemmas.Int.{unsigned_abs-mul}
use Rattle.std.proofs.lemmas.Nat.{le-div}
use Rattle.std.proofs.lemmas.Nat.Gcd.{dvd_refl, dvd_trans}
use Rattle.std.proofs.Math.Nat.{div-mul_cancel, mul-div_cancel_left, dvd-mul_right, eq-one_of_dvd-one, div-mul-le_self, mul-le-mul_left}
use Rattle.numbers.specs.Gcd.{gcd, lcm}
use Rattle.numbers.proofs.GcdLemmas.{gcd_is, gcd-swap, lcm_least, lcm-multiple_left, lcm-multiple_right}
use Rattle.numbers.specs.Fraction.{Fraction, fraction, lowest}
use Rattle.plain_text.specs.NumberWords.{signed, denominator_of, scaled, common_denominator}
use Rattle.plain_text.proofs.Multiples.{parts-positive}
use Rattle.plain_text.proofs.Signs.{signed-mul}
use Rattle.cell_print.specs.Printable.{divisor_with}
use Rattle.plain_text.proofs.NumberWords.{is_below_zero, reduced}

-- ---- the denominators divide d

-- the least common multiple of start and the denominators of the numbers in units of 1/d
abbrev pub grown : ℕ → ℕ → List ℤ → ℕ
grown d start zs = fold (λ m f. lcm m (denominator_of f)) start (map (reduced d) zs)

-- the denominator of z/d
abbrev pub part : ℕ → ℤ → ℕ
part d z = d / gcd (unsigned_abs z) d

-- The denominator of z/d divides d.
pub part-divides : (d : ℕ) (z : ℤ) → part d z ∣ d
part-divides d z = subst (λ n. part d z ∣ n) (div-mul_cancel (gcd (unsigned_abs z) d) (gcd_is (unsigned_abs z) d).1) (dvd-mul_right (part d z) (gcd (unsigned_abs z) d))

grown-least : (d start : ℕ) (zs : List ℤ) → 0 < d → start ∣ d → grown d start zs ∣ d
grown-least d start [] some h = h
grown-least d start (z ∷ zs) some h = grown-least d (lcm start (part d z)) zs some (lcm_least start (part d z) d (parts-positive (unsigned_abs z) d some) h (part-divides d z))

pub one-divides : (d : ℕ) → 1 ∣ d
one-divides d = let same : 1 * d ≡ d = omega arith in subst (λ n. 1 ∣ n) same (dvd-mul_right 1 d)

-- The common denominator divides d.
pub common_denominator-divides : (d : ℕ) (zs : List ℤ) → 0 < d → common_denominator (map (reduced d) zs) ∣ d
common_denominator-divides d zs some = grown-least d 1 zs some (one-divides d)

grown-start : (d start : ℕ) (zs : List ℤ) → start ∣ grown d start zs
grown-start d start [] = dvd_refl start
grown-start d start (z ∷ zs) = dvd_trans start (lcm-multiple_left start (part d z)) (grown-start d (lcm start (part d z)) zs)

abbrev AllPartsDivide : ℕ → ℕ → List ℤ → Type 0
AllPartsDivide d m [] = Unit {0}
AllPartsDivide d m (z ∷ zs) = (part d z ∣ m) × AllPartsDivide d m zs

grown-parts : (d start : ℕ) (zs : List ℤ) → AllPartsDivide d (grown d start zs) zs
grown-parts d start [] = tt
grown-parts d start (z ∷ zs) = (dvd_trans (part d z) (lcm-multiple_right start (part d z)) (grown-start d (lcm start (part d z)) zs), grown-parts d (lcm start (part d z)) zs)

-- ---- what is left of d divides each number

pub cancel : (p a b : ℕ) → 0 < p → p * a ≡ p * b → a ≡ b
cancel p a b h e = sym (mul-div_cancel_left a h) ∙ ap (λ (m : ℕ). m / p) e ∙ mul-div_cancel_left b h

products : (q m t g whole d : ℕ) → t * q ≡ whole → q * g ≡ d → m * whole ≡ d → q * (m * t) ≡ q * g
products q m t g whole d e f h =
    let first : q * (m * t) ≡ m * (t * q) = omega arith in
    first ∙ ap (λ (n : ℕ). m * n) e ∙ h ∙ sym f

cofactor-divides : (d whole m : ℕ) (z : ℤ) → 0 < d → m * whole ≡ d → part d z ∣ whole → m ∣ unsigned_abs z
cofactor-divides d whole m z some e h =
    let a = unsigned_abs z in
    let q = part d z in
    let t = whole / q in
    let is = gcd_is a d in
    let same : m * t ≡ gcd a d = cancel q (m * t) (gcd a d) (parts-positive a d some) (products q m t (gcd a d) whole d (div-mul_cancel q h) (div-mul_cancel (gcd a d) is.1) e) in
    dvd_trans m (subst (λ n. m ∣ n) same (dvd-mul_right m t)) is.0

abbrev pub AllDivisible : ℕ → List ℤ → Type 0
AllDivisible m [] = Unit {0}
AllDivisible m (z ∷ zs) = (m ∣ unsigned_abs z) × AllDivisible m zs

cofactors : (d whole m : ℕ) (zs : List ℤ) → 0 < d → m * whole ≡ d → AllPartsDivide d whole zs → AllDivisible m zs
cofactors d whole m [] some e h = tt
cofactors d whole m (z ∷ zs) some e h = (cofactor-divides d whole m z some e h.0, cofactors d whole m zs some e h.1)

divisor-all : (m g : ℕ) (zs : List ℤ) → m ∣ g → AllDivisible m zs → m ∣ divisor_with g zs
divisor-all m g [] h all = h
divisor-all m g (z ∷ zs) h all = divisor-all m (gcd g (unsigned_abs z)) zs ((gcd_is g (unsigned_abs z)).2 m h all.0) all.1

-- The common denominator of numbers in their least unit is that unit.
pub common_denominator-reduced : (d : ℕ) (zs : List ℤ) → 0 < d → divisor_with d zs ≡ 1 → common_denominator (map (reduced d) zs) ≡ d
common_denominator-reduced d zs some coprime =
    let whole = grown d 1 zs in
    let m = d / whole in
    let split : m * whole ≡ d = div-mul_cancel whole (common_denominator-divides d zs some) in
    let of_d : m ∣ d = subst (λ n. m ∣ n) split (dvd-mul_right m whole) in
    let of_one : m ∣ 1 = subst (λ n. m ∣ n) coprime (divisor-all m d zs of_d (cofactors d whole m zs some split (grown-parts d 1 zs))) in
    let one : m ≡ 1 = eq-one_of_dvd-one of_one in
    omega (arith, split, ap (λ (n : ℕ). n * whole) one)

-- ---- scaled numbers

signed-abs : (z : ℤ) → signed (is_below_zero z) (unsigned_abs z) ≡ z
signed-abs (pos a) = refl
signed-abs (negsuc a) = refl

-- d · z/d is z.
pub scaled-reduced : (d : ℕ) (z : ℤ) → 0 < d → scaled d (reduced d z) ≡ z
scaled-reduced d z some =
    let a = unsigned_abs z in
    let g = gcd a d in
    let s = is_below_zero z in
    let is = gcd_is a d in
    let whole : part d z * g ≡ d = div-mul_cancel g is.1 in
    let unit : d / part d z ≡ g = ap (λ (n : ℕ). n / part d z) (sym whole) ∙ mul-div_cancel_left g (parts-positive a d some) in
    ap (λ (n : ℕ). signed s (a / g) *ℤ pos n) unit ∙ sym (signed-mul s (a / g) g) ∙ ap (signed s) (div-mul_cancel g is.0) ∙ signed-abs z

smaller_quotient : (m d k : ℕ) → 0 < k → m ≤ d → m / k ≤ d / k
smaller_quotient m d k some h = le-div (m / k) d k some (omega (arith, h, div-mul-le_self m k))

-- In a smaller unit it is no larger.
pub scaled-smaller : (d m : ℕ) (z : ℤ) → 0 < d → m ≤ d → unsigned_abs (scaled m (reduced d z)) ≤ unsigned_abs z
scaled-smaller d m z some h =
    let f = reduced d z in
    let small : m / (denominator_of f) ≤ d / (denominator_of f) = smaller_quotient m d (denominator_of f) (parts-positive (unsigned_abs z) d some) h in
    let sizes : unsigned_abs f.numerator * (m / (denominator_of f)) ≤ unsigned_abs f.numerator * (d / (denominator_of f)) = mul-le-mul_left (unsigned_abs f.numerator) small in
    let here = unsigned_abs-mul f.numerator (pos (m / (denominator_of f))) in
    let there = unsigned_abs-mul f.numerator (pos (d / (denominator_of f))) in
    omega (arith, sizes, here, there, ap unsigned_abs (scaled-reduced d z some))

-- ---- zero

gcd-zero_left : (k : ℕ) → gcd 0 k ≡ k
unfolding gcd
gcd-zero_left k = gcd-swap 0 k ∙ refl

-- 0 in any unit is 0/1
pub reduced-zero : (k : ℕ) → 0 < k → reduced k (pos 0) ≡ fraction (pos 0) (pos 1)
unfolding lowest gcd
reduced-zero k h = ap (λ (g : ℕ). made (0 / g) (k / g)) (gcd-zero_left k) ∙ ap (λ (n : ℕ). made n (k / k)) none ∙ ap (λ (n : ℕ). made 0 n) one
  where
    made : ℕ → ℕ → Fraction
    made n d = fraction (pos n) (pos d)

    none : 0 / k ≡ 0
    none = sym (ap (λ (n : ℕ). n / k) (omega arith)) ∙ mul-div_cancel_left 0 h

    one : k / k ≡ 1
    one = sym (ap (λ (n : ℕ). n / k) (omega arith)) ∙ mul-div_cancel_left 1 h
