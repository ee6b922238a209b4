-- Residues modulo m are a commutative ring.
--   residue_splits    a number is its residue and a multiple of the modulus
--   residue_same      numbers that differ by a multiple of the modulus have one residue
--   residue_laws      the laws
use Rattle.std.proofs.Common.{◌≡◌, ℕ, zero, suc, ◌+◌, ◌-◌, ◌*◌, ◌/◌, ◌%◌, ◌<◌, [], ◌∷◌, ℤ, pos, negsuc, ◌+ℤ◌, ◌*ℤ◌, neg_ℤ, ◌<ℤ◌, ◌≤ℤ◌, unsigned_abs, refl, sym, ap, ◌∙◌, arith}
use Rattle.std.proofs.lemmas.Int.{ints}
use Rattle.std.proofs.Math.Nat.{mod-eq_of_lt}
use Rattle.std.specs.Int.{int_rem_euclid}
use Rattle.ring.specs.Ring.{int_ops, var, opposite, ◌:+◌, ◌:*◌}
use Rattle.ring.proofs.RingSound.{LawsOn}
use Rattle.ring.proofs.Solving.{by_ring}
use Rattle.ring.proofs.IntRing.{int_laws}
use Rattle.numbers.specs.Residue.{residue, IsResidue, residue_ops}

-- below the modulus
pub record Within (m : ℕ) (z : ℤ) : Type 0 where
  pub low : pos 0 ≤ℤ z
  pub high : z <ℤ pos m

-- the residue is from 0 to m - 1
pub residue_within : (m : ℕ) (z : ℤ) → Within (suc m) (residue (suc m) z)
unfolding residue
residue_within m (pos a) = record { low = omega (arith, ints); high = omega (arith, ints) }
residue_within m (negsuc a) = record { low = omega (arith, ints); high = omega (arith, ints) }

-- a number is its residue and a multiple of the modulus
pub residue_splits : (m : ℕ) (z : ℤ) → (q : ℤ) × (residue m z ≡ z +ℤ q *ℤ pos m)
unfolding residue
residue_splits zero z = (pos 0, omega (arith, ints))
residue_splits (suc m) (pos a) = (neg_ℤ (pos (a / suc m)), split_pos a (a / suc m) (a % suc m) (suc m) (omega arith))
  where
    split_pos : (a q r m : ℕ) → q * m + r ≡ a → pos r ≡ pos a +ℤ neg_ℤ (pos q) *ℤ pos m
    split_pos a q r m h =
        by_ring int_ops int_laws (pos q ∷ pos r ∷ pos m ∷ []) (var 1) ((var 0 :* var 2 :+ var 1) :+ opposite (var 0) :* var 2) refl ∙ ap (λ n. pos n +ℤ neg_ℤ (pos q) *ℤ pos m) h
residue_splits (suc m) (negsuc a) = (pos (suc (a / suc m)), split_neg a (a / suc m) (a % suc m) (suc m) (omega arith) (omega arith))
  where
    split_neg : (a q r m : ℕ) → q * m + r ≡ a → r < m → pos (m - 1 - r) ≡ negsuc a +ℤ pos (suc q) *ℤ pos m
    split_neg a q r m h k = omega (arith, ints)

unique : (m : ℕ) (x y k : ℤ) → Within m x → Within m y → x ≡ y +ℤ k *ℤ pos m → x ≡ y
unique m (negsuc x) y k h j e = absurd h.low.le
unique m (pos x) (negsuc y) k h j e = absurd j.low.le
unique m (pos x) (pos y) (pos zero) h j e = omega (arith, ints)
unique m (pos x) (pos y) (pos (suc k)) h j e = absurd (omega (arith, ints))
unique m (pos x) (pos y) (negsuc k) h j e = absurd (omega (arith, ints))

-- a multiple of the modulus changes nothing
pub residue_same : (m : ℕ) (x y k : ℤ) → x ≡ y +ℤ k *ℤ pos m → residue m x ≡ residue m y
unfolding residue
residue_same zero x y k e = omega (arith, ints)
residue_same (suc m) x y k e =
    let u = residue_splits (suc m) x in
    let v = residue_splits (suc m) y in
    unique (suc m) _ _ (u.0 +ℤ k +ℤ neg_ℤ v.0) (residue_within m x) (residue_within m y) (u.1 ∙ ap (λ w. w +ℤ u.0 *ℤ pos (suc m)) e ∙ by_ring int_ops int_laws (y ∷ k ∷ u.0 ∷ v.0 ∷ pos (suc m) ∷ []) ((var 0 :+ var 1 :* var 4) :+ var 2 :* var 4) ((var 0 :+ var 3 :* var 4) :+ ((var 2 :+ var 1) :+ opposite (var 3)) :* var 4) refl ∙ ap (λ w. w +ℤ (u.0 +ℤ k +ℤ neg_ℤ v.0) *ℤ pos (suc m)) (sym v.1))

-- a residue is its own residue
pub residue_is : (m : ℕ) (z : ℤ) → IsResidue m (residue m z)
residue_is m z = let s = residue_splits m z in residue_same m (residue m z) z s.0 s.1

add_left : (m : ℕ) (x y : ℤ) → residue m (residue m x +ℤ y) ≡ residue m (x +ℤ y)
add_left m x y =
    let s = residue_splits m x in
    residue_same m _ _ s.0 (ap (λ w. w +ℤ y) s.1 ∙ by_ring int_ops int_laws (x ∷ y ∷ s.0 ∷ pos m ∷ []) ((var 0 :+ var 2 :* var 3) :+ var 1) ((var 0 :+ var 1) :+ var 2 :* var 3) refl)

mul_left : (m : ℕ) (x y : ℤ) → residue m (residue m x *ℤ y) ≡ residue m (x *ℤ y)
mul_left m x y =
    let s = residue_splits m x in
    residue_same m _ _ (s.0 *ℤ y) (ap (λ w. w *ℤ y) s.1 ∙ by_ring int_ops int_laws (x ∷ y ∷ s.0 ∷ pos m ∷ []) ((var 0 :+ var 2 :* var 3) :* var 1) (var 0 :* var 1 :+ (var 2 :* var 1) :* var 3) refl)

add_right : (m : ℕ) (x y : ℤ) → residue m (x +ℤ residue m y) ≡ residue m (x +ℤ y)
add_right m x y =
    ap (residue m) (int_laws.add_comm x (residue m y)) ∙ add_left m y x ∙ ap (residue m) (int_laws.add_comm y x)

mul_right : (m : ℕ) (x y : ℤ) → residue m (x *ℤ residue m y) ≡ residue m (x *ℤ y)
mul_right m x y =
    ap (residue m) (int_laws.mul_comm x (residue m y)) ∙ mul_left m y x ∙ ap (residue m) (int_laws.mul_comm y x)

-- the laws of residues modulo m
pub residue_laws : (m : ℕ) → LawsOn (residue_ops m) (IsResidue m)
residue_laws m = record {
  int_in = residue_is m;
  add_in = λ x y p q. residue_is m (x +ℤ y);
  mul_in = λ x y p q. residue_is m (x *ℤ y);
  add_comm = λ x y p q. ap (residue m) (int_laws.add_comm x y);
  add_assoc = λ x y z p q r. add_left m (x +ℤ y) z ∙ ap (residue m) (int_laws.add_assoc x y z) ∙ sym (add_right m x (y +ℤ z));
  zero_add = λ x p. add_left m (pos 0) x ∙ ap (residue m) (int_laws.zero_add x) ∙ p;
  mul_comm = λ x y p q. ap (residue m) (int_laws.mul_comm x y);
  mul_assoc = λ x y z p q r. mul_left m (x *ℤ y) z ∙ ap (residue m) (int_laws.mul_assoc x y z) ∙ sym (mul_right m x (y *ℤ z));
  one_mul = λ x p. mul_left m (pos 1) x ∙ ap (residue m) (int_laws.one_mul x) ∙ p;
  zero_mul = λ x p. mul_left m (pos 0) x ∙ ap (residue m) (int_laws.zero_mul x);
  add_mul = λ x y z p q r. mul_left m (x +ℤ y) z ∙ ap (residue m) (int_laws.add_mul x y z) ∙ sym (add_left m (x *ℤ z) (residue m (y *ℤ z)) ∙ add_right m (x *ℤ z) (y *ℤ z));
  opp_is = λ x p. ap (residue m) (int_laws.opp_is x) ∙ sym (mul_left m (negsuc 0) x);
  int_add = λ a b. sym (add_left m a (residue m b) ∙ add_right m a b);
  int_mul = λ a b. sym (mul_left m a (residue m b) ∙ mul_right m a b);
}

-- ---- residues by remainders of natural numbers

-- of a natural number
pub residue-pos : (m n : ℕ) → 0 < m → residue m (pos n) ≡ pos (n % m)
unfolding residue
residue-pos zero n h = absurd (omega arith)
residue-pos (suc m) n h = refl

-- of an integer, by its euclidean remainder
pub residue-euclid : (m : ℕ) (z : ℤ) → 0 < m → residue m z ≡ int_rem_euclid z (pos m)
unfolding residue
residue-euclid zero z h = absurd (omega arith)
residue-euclid (suc m) z h = refl

-- what is below the modulus is a residue
pub residue_below : (m n : ℕ) → n < m → IsResidue m (pos n)
residue_below m n h = residue-pos m n (omega arith) ∙ ap pos (mod-eq_of_lt h)

-- of a sum
pub residue-sum : (m a b : ℕ) → 0 < m → pos ((a + b) % m) ≡ residue m (pos a +ℤ pos b)
residue-sum m a b h = sym (residue-pos m (a + b) h)

-- of a product
pub residue-product : (m a b : ℕ) → 0 < m → pos ((a * b) % m) ≡ residue m (pos a *ℤ pos b)
residue-product m a b h = sym (residue-pos m (a * b) h)

-- of an opposite
pub residue-negative : (m b : ℕ) → b < m → pos ((m - b) % m) ≡ residue m (neg_ℤ (pos b))
residue-negative m b h =
    sym (residue-pos m (m - b) (omega arith)) ∙ residue_same m (pos (m - b)) (neg_ℤ (pos b)) (pos 1) (omega (arith, ints))

-- of a difference
pub residue-difference : (m a b : ℕ) → b < m → pos ((a + (m - b)) % m) ≡ residue m (pos a +ℤ residue m (neg_ℤ (pos b)))
residue-difference m a b h =
    sym (residue-pos m (a + (m - b)) (omega arith)) ∙ residue_same m (pos (a + (m - b))) (pos a +ℤ neg_ℤ (pos b)) (pos 1) (omega (arith, ints)) ∙ sym (add_right m (pos a) (neg_ℤ (pos b)))

-- a residue is the integer of its size
pub residue-abs : (m : ℕ) (z : ℤ) → 0 < m → pos (unsigned_abs (residue m z)) ≡ residue m z
unfolding residue
residue-abs zero z h = absurd (omega arith)
residue-abs (suc m) (pos a) h = refl
residue-abs (suc m) (negsuc a) h = refl
