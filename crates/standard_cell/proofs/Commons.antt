-- Greatest common divisors of integers: r divides g and x, and where k divides f g and f x, it divides f r.
use Rattle.std.proofs.Common.{◌≡◌, ℕ, zero, suc, ◌*◌, ◌/◌, ◌<◌, ◌≤◌, ℤ, pos, negsuc, ◌*ℤ◌, ◌<ℤ◌, [], ◌∷◌, refl, sym, ap, subst, ◌∙◌, arith}
use Rattle.std.specs.Prelude.{◌↔◌, unsigned_abs, int_div}
use Rattle.std.specs.Int.{◌∣◌}
use Rattle.std.proofs.lemmas.Int.{ints, unsigned_abs-mul}
use Rattle.std.proofs.lemmas.Nat.Gcd.{dvd-zero, dvd_trans, le_of_dvd}
use Rattle.std.proofs.Math.Nat.{div-mul_cancel, dvd-mul_right, mul-dvd-mul_right, dvd_of_mul-dvd-mul_right}
use Rattle.ring.specs.Ring.{var, ◌:*◌}
use Rattle.numbers.specs.Gcd.{gcd}
use Rattle.numbers.proofs.GcdLemmas.{gcd_is, gcd-positive}
use Rattle.numbers.proofs.FractionLemmas.{quotient-exact}
use Rattle.crystal_spec.specs.Matrices.{Triple, multiple}
use Rattle.crystal_spec.proofs.Identities.{by_integers}
use Rattle.crystal_spec.proofs.Entrywise.{triple_same}
use Rattle.match_spec.specs.Points.{IsWhole}
use Rattle.standard_cell.specs.PlaceDivisors.{IsMultiple}
use Rattle.standard_cell.specs.Commons.{IsCommon, IsCommonWith}

product_swap : (a b : ℤ) → a *ℤ b ≡ b *ℤ a
product_swap a b = by_integers (a ∷ b ∷ []) (var 0 :* var 1) (var 1 :* var 0) refl

-- divisors of integers are those of their sizes
pub to_natural : (k z : ℤ) → IsMultiple k z → unsigned_abs k ∣ unsigned_abs z
to_natural k z h = subst (λ (n : ℕ). unsigned_abs k ∣ n) (sym (ap unsigned_abs h.1 ∙ unsigned_abs-mul k h.0)) (dvd-mul_right (unsigned_abs k) (unsigned_abs h.0))

pub of_natural : (n : ℕ) (z : ℤ) → n ∣ unsigned_abs z → IsMultiple (pos n) z
of_natural n z h = (int_div z (pos n), sym (quotient-exact z n h) ∙ product_swap (int_div z (pos n)) (pos n))

natural : (k : ℤ) → pos 0 <ℤ k → pos (unsigned_abs k) ≡ k
natural (pos n) h = refl
natural (negsuc n) h = absurd h.lt

of_positive : (k z : ℤ) → pos 0 <ℤ k → unsigned_abs k ∣ unsigned_abs z → IsMultiple k z
of_positive k z above h = subst (λ (i : ℤ). IsMultiple i z) (natural k above) (of_natural (unsigned_abs k) z h)

-- a common divisor of f a and f b divides f gcd(a, b)
scaled_divisor : (a b f k : ℕ) → k ∣ f * a → k ∣ f * b → k ∣ f * gcd a b
scaled_divisor a b zero k h j = subst (λ (n : ℕ). k ∣ n) (omega arith) (dvd-zero k)
scaled_divisor a b (suc f) k h j =
    let s = suc f in
    let g = gcd (s * a) (s * b) in
    let is = gcd_is (s * a) (s * b) in
    let m = g / s in
    let whole : m * s ≡ g = div-mul_cancel s (is.2 s (dvd-mul_right s a) (dvd-mul_right s b)) in
    let left : m ∣ a = dvd_of_mul-dvd-mul_right m (some f) (subst (λ (n : ℕ). n ∣ a * s) (sym whole) (subst (λ (n : ℕ). g ∣ n) (swap s a) is.0)) in
    let right : m ∣ b = dvd_of_mul-dvd-mul_right m (some f) (subst (λ (n : ℕ). n ∣ b * s) (sym whole) (subst (λ (n : ℕ). g ∣ n) (swap s b) is.1)) in
    let both : m * s ∣ gcd a b * s = mul-dvd-mul_right m ((gcd_is a b).2 m left right) s in
    dvd_trans k (is.2 k h j) (subst (λ (n : ℕ). n ∣ s * gcd a b) whole (subst (λ (n : ℕ). m * s ∣ n) (swap (gcd a b) s) both))
  where
    some : (f : ℕ) → 0 < suc f
    some f = omega arith

    swap : (a b : ℕ) → a * b ≡ b * a
    swap a b = omega arith

-- what the greatest common divisor of the sizes is to the integers
pub common_is : (g x r : ℤ) → pos 0 <ℤ g → r ≡ pos (gcd (unsigned_abs x) (unsigned_abs g)) → IsCommon g x r
common_is g x r above e = subst (IsCommon g x) (sym e) (record {
  positive = number (gcd (unsigned_abs x) (unsigned_abs g)) (gcd-positive (unsigned_abs x) (unsigned_abs g) (size g above));
  of_left = of_natural (gcd (unsigned_abs x) (unsigned_abs g)) g (gcd_is (unsigned_abs x) (unsigned_abs g)).1;
  of_right = of_natural (gcd (unsigned_abs x) (unsigned_abs g)) x (gcd_is (unsigned_abs x) (unsigned_abs g)).0;
  greatest = greatest;
})
  where
    number : (n : ℕ) → 0 < n → pos 0 <ℤ pos n
    number n h = omega (arith, ints)

    size : (z : ℤ) → pos 0 <ℤ z → 0 < unsigned_abs z
    size z h = omega (arith, ints)

    product : (k f z : ℤ) → IsMultiple k (f *ℤ z) → unsigned_abs k ∣ unsigned_abs f * unsigned_abs z
    product k f z h = subst (λ (n : ℕ). unsigned_abs k ∣ n) (unsigned_abs-mul f z) (to_natural k (f *ℤ z) h)

    greatest : (k f : ℤ) → pos 0 <ℤ k → IsMultiple k (f *ℤ g) → IsMultiple k (f *ℤ x) → IsMultiple k (f *ℤ pos (gcd (unsigned_abs x) (unsigned_abs g)))
    greatest k f k_above h j =
        of_positive k (f *ℤ pos (gcd (unsigned_abs x) (unsigned_abs g))) k_above
        (subst (λ (n : ℕ). unsigned_abs k ∣ n) (sym (unsigned_abs-mul f (pos (gcd (unsigned_abs x) (unsigned_abs g))))) (scaled_divisor (unsigned_abs x) (unsigned_abs g) (unsigned_abs f) (unsigned_abs k) (product k f x j) (product k f g h)))

-- a common divisor is no larger than the first number
pub common_size : (g x r : ℤ) → pos 0 <ℤ g → r ≡ pos (gcd (unsigned_abs x) (unsigned_abs g)) → unsigned_abs r ≤ unsigned_abs g
common_size g x r above e = subst (λ (z : ℤ). unsigned_abs z ≤ unsigned_abs g) (sym e) (le_of_dvd (size g above) (gcd_is (unsigned_abs x) (unsigned_abs g)).1)
  where
    size : (z : ℤ) → pos 0 <ℤ z → 0 < unsigned_abs z
    size z h = omega (arith, ints)

-- ---- a number and the coordinates of a column

pub multiple_multiple : (g r z : ℤ) → IsMultiple g z → IsMultiple r g → IsMultiple r z
multiple_multiple g r z h k = (k.0 *ℤ h.0, h.1 ∙ ap (λ (i : ℤ). i *ℤ h.0) k.1 ∙ by_integers (r ∷ k.0 ∷ h.0 ∷ []) ((var 0 :* var 1) :* var 2) (var 0 :* (var 1 :* var 2)) refl)

whole_of : (d : ℤ) (v : Triple) → IsMultiple d v.x → IsMultiple d v.y → IsMultiple d v.z → IsWhole d v
whole_of d v x y z = record { quotient = record { x = x.0; y = y.0; z = z.0 }; is = triple_same x.1 y.1 z.1 }

pub whole_iff : (d : ℤ) (v : Triple) → IsWhole d v ↔ (IsMultiple d v.x × IsMultiple d v.y × IsMultiple d v.z)
whole_iff d v = (into, λ h. whole_of d v h.0 h.1 h.2)
  where
    into : IsWhole d v → IsMultiple d v.x × IsMultiple d v.y × IsMultiple d v.z
    into h = ((h.quotient.x, ap (λ (t : Triple). t.x) h.is), (h.quotient.y, ap (λ (t : Triple). t.y) h.is), (h.quotient.z, ap (λ (t : Triple). t.z) h.is))

pub common_with : (g : ℤ) (v : Triple) (r s t : ℤ) → IsCommon g v.x r → IsCommon r v.y s → IsCommon s v.z t → IsCommonWith g v t
common_with g v r s t x y z = record {
  positive = z.positive;
  of_left = multiple_multiple r t g x.of_left (multiple_multiple s t r y.of_left z.of_left);
  of_right = whole_of t v (multiple_multiple r t v.x x.of_right (multiple_multiple s t r y.of_left z.of_left)) (multiple_multiple s t v.y y.of_right z.of_left) z.of_right;
  greatest = λ k f above h w. let p = (whole_iff k (multiple f v)).0 w in z.greatest k f above (y.greatest k f above (x.greatest k f above h p.0) p.1) p.2;
}

-- what g divides, r divides
pub whole_divided : (g r : ℤ) (v : Triple) → IsWhole g v → IsMultiple r g → IsWhole r v
whole_divided g r v h k = let p = (whole_iff g v).0 h in whole_of r v (multiple_multiple g r v.x p.0 k) (multiple_multiple g r v.y p.1 k) (multiple_multiple g r v.z p.2 k)
