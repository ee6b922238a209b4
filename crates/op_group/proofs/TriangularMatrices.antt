-- n times the inverse of an upper triangular matrix, entry by entry.
--
-- Each row of the product tells an entry from those below it: the last row the last one, and so on. A quotient by a positive
-- number is one alone.
use Rattle.std.proofs.Common.{◌≡◌, ℕ, ◌^◌, ℤ, pos, ◌+ℤ◌, ◌*ℤ◌, neg_ℤ, ◌<ℤ◌, [], ◌∷◌, refl, sym, ap, subst, ◌∙◌}
use Rattle.ring.specs.Ring.{var, con, ◌:+◌, ◌:*◌, opposite}
use Rattle.ring.specs.Size.{AtMost}
use Rattle.ring.proofs.Sizes.{at_most_mul, at_most_add, weaken}
use Rattle.crystal_spec.specs.Matrices.{Matrix, product, identity}
use Rattle.crystal_spec.proofs.Entrywise.{matrix_same}
use Rattle.crystal_spec.proofs.Identities.{by_integers}
use Rattle.basis_spec.specs.Metrics.{matrix_multiple}
use Rattle.basis_spec.proofs.Cancelling.{mul_cancel}
use Rattle.op_group.specs.Steps.{HasInverse}

-- two quotients by a positive number are one
pub same_quotient : (s a q x : ℤ) → pos 0 <ℤ s → a *ℤ s ≡ x → q *ℤ s ≡ x → a ≡ q
same_quotient s a q x p e f = mul_cancel s a q p (turned s a ∙ e ∙ sym f ∙ turned q s)
  where
    turned : (u v : ℤ) → u *ℤ v ≡ v *ℤ u
    turned u v = by_integers (u ∷ v ∷ []) (var 0 :* var 1) (var 1 :* var 0) refl

-- the first summand of three
first_of_three : (b1 b2 b3 u v w x : ℤ) → (b1 *ℤ u +ℤ b2 *ℤ v) +ℤ b3 *ℤ w ≡ x → u *ℤ b1 ≡ x +ℤ neg_ℤ (b2 *ℤ v +ℤ b3 *ℤ w)
first_of_three b1 b2 b3 u v w x e =
    by_integers (b1 ∷ b2 ∷ b3 ∷ u ∷ v ∷ w ∷ []) (var 3 :* var 0) (((var 0 :* var 3 :+ var 1 :* var 4) :+ var 2 :* var 5) :+ opposite (var 1 :* var 4 :+ var 2 :* var 5)) refl
    ∙ ap (λ (t : ℤ). t +ℤ neg_ℤ (b2 *ℤ v +ℤ b3 *ℤ w)) e

-- the second, where the first is 0
second_of_three : (b1 b2 b3 u v w x : ℤ) → b1 ≡ pos 0 → (b1 *ℤ u +ℤ b2 *ℤ v) +ℤ b3 *ℤ w ≡ x → v *ℤ b2 ≡ x +ℤ neg_ℤ (b3 *ℤ w)
second_of_three b1 b2 b3 u v w x z e =
    by_integers (b2 ∷ b3 ∷ u ∷ v ∷ w ∷ []) (var 3 :* var 0) (((con (pos 0) :* var 2 :+ var 0 :* var 3) :+ var 1 :* var 4) :+ opposite (var 1 :* var 4)) refl
    ∙ (λ i. ((sym z i *ℤ u +ℤ b2 *ℤ v) +ℤ b3 *ℤ w) +ℤ neg_ℤ (b3 *ℤ w)) ∙ ap (λ (t : ℤ). t +ℤ neg_ℤ (b3 *ℤ w)) e

-- the third, where the others are 0
third_of_three : (b1 b2 b3 u v w x : ℤ) → b1 ≡ pos 0 → b2 ≡ pos 0 → (b1 *ℤ u +ℤ b2 *ℤ v) +ℤ b3 *ℤ w ≡ x → w *ℤ b3 ≡ x
third_of_three b1 b2 b3 u v w x z y e =
    by_integers (b3 ∷ u ∷ v ∷ w ∷ []) (var 3 :* var 0) ((con (pos 0) :* var 1 :+ con (pos 0) :* var 2) :+ var 0 :* var 3) refl
    ∙ (λ i. (sym z i *ℤ u +ℤ sym y i *ℤ v) +ℤ b3 *ℤ w) ∙ e

-- n times an entry of the identity
one_of : (n : ℤ) → n *ℤ pos 1 ≡ n
one_of n = by_integers (n ∷ []) (var 0 :* con (pos 1)) (var 0) refl

none_of : (n : ℤ) → n *ℤ pos 0 ≡ pos 0
none_of n = by_integers (n ∷ []) (var 0 :* con (pos 0)) (con (pos 0)) refl

-- nothing taken away
less_none : (x b v : ℤ) → v ≡ pos 0 → x +ℤ neg_ℤ (b *ℤ v) ≡ x
less_none x b v e = ap (λ (t : ℤ). x +ℤ neg_ℤ (b *ℤ t)) e ∙ by_integers (x ∷ b ∷ []) (var 0 :+ opposite (var 1 :* con (pos 0))) (var 0) refl

less_one : (x b c u v : ℤ) → v ≡ pos 0 → x +ℤ neg_ℤ (b *ℤ u +ℤ c *ℤ v) ≡ x +ℤ neg_ℤ (b *ℤ u)
less_one x b c u v e = ap (λ (t : ℤ). x +ℤ neg_ℤ (b *ℤ u +ℤ c *ℤ t)) e ∙ by_integers (x ∷ b ∷ c ∷ u ∷ []) (var 0 :+ opposite (var 1 :* var 3 :+ var 2 :* con (pos 0))) (var 0 :+ opposite (var 1 :* var 3)) refl

from_none : (n y : ℤ) → n *ℤ pos 0 +ℤ neg_ℤ y ≡ neg_ℤ y
from_none n y = by_integers (n ∷ y ∷ []) (var 0 :* con (pos 0) :+ opposite (var 1)) (opposite (var 1)) refl

zero_quotient : (s v x : ℤ) → pos 0 <ℤ s → v *ℤ s ≡ x → x ≡ pos 0 → v ≡ pos 0
zero_quotient s v x p e f = same_quotient s v (pos 0) (pos 0) p (e ∙ f) (by_integers (s ∷ []) (con (pos 0) :* var 0) (con (pos 0)) refl)

-- the entries of n times the inverse q of b
pub record InverseEntries (n : ℤ) (b q : Matrix) : Type 0 where
  pub zeros : (q.a21 ≡ pos 0) × (q.a31 ≡ pos 0) × (q.a32 ≡ pos 0)
  pub a11 : q.a11 *ℤ b.a11 ≡ n
  pub a22 : q.a22 *ℤ b.a22 ≡ n
  pub a33 : q.a33 *ℤ b.a33 ≡ n
  pub a12 : q.a12 *ℤ b.a11 ≡ neg_ℤ (b.a12 *ℤ q.a22)
  pub a23 : q.a23 *ℤ b.a22 ≡ neg_ℤ (b.a23 *ℤ q.a33)
  pub a13 : q.a13 *ℤ b.a11 ≡ neg_ℤ (b.a12 *ℤ q.a23 +ℤ b.a13 *ℤ q.a33)

-- each from those below it
pub inverse_entries : (n : ℕ) (b : Matrix) (h : HasInverse n b) → InverseEntries (pos n) b h.inverse
inverse_entries n b h =
    let q = h.inverse in
    let m = pos n in
    let p1 = h.diagonal.0 in
    let p2 = h.diagonal.1 in
    let p3 = h.diagonal.2 in
    let e31 = third_of_three b.a31 b.a32 b.a33 q.a11 q.a21 q.a31 (m *ℤ pos 0) h.zeros.1 h.zeros.2 (ap (λ (a : Matrix). a.a31) h.is) in
    let e32 = third_of_three b.a31 b.a32 b.a33 q.a12 q.a22 q.a32 (m *ℤ pos 0) h.zeros.1 h.zeros.2 (ap (λ (a : Matrix). a.a32) h.is) in
    let e33 = third_of_three b.a31 b.a32 b.a33 q.a13 q.a23 q.a33 (m *ℤ pos 1) h.zeros.1 h.zeros.2 (ap (λ (a : Matrix). a.a33) h.is) in
    let z31 = zero_quotient b.a33 q.a31 (m *ℤ pos 0) p3 e31 (none_of m) in
    let z32 = zero_quotient b.a33 q.a32 (m *ℤ pos 0) p3 e32 (none_of m) in
    let e21 = second_of_three b.a21 b.a22 b.a23 q.a11 q.a21 q.a31 (m *ℤ pos 0) h.zeros.0 (ap (λ (a : Matrix). a.a21) h.is) in
    let e22 = second_of_three b.a21 b.a22 b.a23 q.a12 q.a22 q.a32 (m *ℤ pos 1) h.zeros.0 (ap (λ (a : Matrix). a.a22) h.is) in
    let e23 = second_of_three b.a21 b.a22 b.a23 q.a13 q.a23 q.a33 (m *ℤ pos 0) h.zeros.0 (ap (λ (a : Matrix). a.a23) h.is) in
    let z21 = zero_quotient b.a22 q.a21 (m *ℤ pos 0 +ℤ neg_ℤ (b.a23 *ℤ q.a31)) p2 e21 (less_none (m *ℤ pos 0) b.a23 q.a31 z31 ∙ none_of m) in
    let e11 = first_of_three b.a11 b.a12 b.a13 q.a11 q.a21 q.a31 (m *ℤ pos 1) (ap (λ (a : Matrix). a.a11) h.is) in
    let e12 = first_of_three b.a11 b.a12 b.a13 q.a12 q.a22 q.a32 (m *ℤ pos 0) (ap (λ (a : Matrix). a.a12) h.is) in
    let e13 = first_of_three b.a11 b.a12 b.a13 q.a13 q.a23 q.a33 (m *ℤ pos 0) (ap (λ (a : Matrix). a.a13) h.is) in
    record {
      zeros = (z21, z31, z32);
      a11 = e11 ∙ less_one (m *ℤ pos 1) b.a12 b.a13 q.a21 q.a31 z31 ∙ less_none (m *ℤ pos 1) b.a12 q.a21 z21 ∙ one_of m;
      a22 = e22 ∙ less_none (m *ℤ pos 1) b.a23 q.a32 z32 ∙ one_of m;
      a33 = e33 ∙ one_of m;
      a12 = e12 ∙ less_one (m *ℤ pos 0) b.a12 b.a13 q.a22 q.a32 z32 ∙ from_none m (b.a12 *ℤ q.a22);
      a23 = e23 ∙ from_none m (b.a23 *ℤ q.a33);
      a13 = e13 ∙ from_none m (b.a12 *ℤ q.a23 +ℤ b.a13 *ℤ q.a33);
    }

-- ---- what the code computes on the way

-- the product with a quotient that is the entry q is a value of the type
pub product_small : {a q : ℤ} (x : ℤ) → AtMost (2 ^ 32) a → AtMost (2 ^ 32) q → x ≡ q → AtMost (10 ^ 36) (a *ℤ x)
product_small {a} x h k e = weaken (10 ^ 36) (at_most_mul h (subst (AtMost (2 ^ 32)) (sym e) k)) tt

-- so is the sum of two
pub sum_small : {a b q r : ℤ} (x y u v : ℤ) → AtMost (2 ^ 32) a → AtMost (2 ^ 32) q → AtMost (2 ^ 32) b → AtMost (2 ^ 32) r → x ≡ q → y ≡ r → u ≡ a *ℤ x → v ≡ b *ℤ y → AtMost (10 ^ 36) (u +ℤ v)
sum_small {a} {b} x y u v h k h' k' e f eu ev =
    subst (λ (z : ℤ). AtMost (10 ^ 36) z) (λ i. sym eu i +ℤ sym ev i)
    (weaken (10 ^ 36) (at_most_add (at_most_mul h (subst (AtMost (2 ^ 32)) (sym e) k)) (at_most_mul h' (subst (AtMost (2 ^ 32)) (sym f) k'))) tt)

-- the opposite of the product with the entry q
pub opposite_of_product : (b x q u r : ℤ) → x ≡ q → u ≡ b *ℤ x → r ≡ neg_ℤ u → r ≡ neg_ℤ (b *ℤ q)
opposite_of_product b x q u r e f g = g ∙ ap neg_ℤ f ∙ ap (λ (z : ℤ). neg_ℤ (b *ℤ z)) e

-- of the sum of two
pub opposite_of_sum : (a b x y q p u v w r : ℤ) → x ≡ q → y ≡ p → u ≡ a *ℤ x → v ≡ b *ℤ y → w ≡ u +ℤ v → r ≡ neg_ℤ w → r ≡ neg_ℤ (a *ℤ q +ℤ b *ℤ p)
opposite_of_sum a b x y q p u v w r e e' f f' g h = h ∙ ap neg_ℤ g ∙ (λ i. neg_ℤ (f i +ℤ f' i)) ∙ (λ i. neg_ℤ (a *ℤ e i +ℤ b *ℤ e' i))

-- a matrix with these entries is n times the inverse
pub is_inverse : (n : ℕ) (b r : Matrix) (h : HasInverse n b) → (r.a21 ≡ pos 0) × (r.a31 ≡ pos 0) × (r.a32 ≡ pos 0) → r.a11 ≡ h.inverse.a11 → r.a12 ≡ h.inverse.a12 → r.a13 ≡ h.inverse.a13 → r.a22 ≡ h.inverse.a22 → r.a23 ≡ h.inverse.a23 → r.a33 ≡ h.inverse.a33 →
    product b r ≡ matrix_multiple (pos n) identity
is_inverse n b r h z e11 e12 e13 e22 e23 e33 =
    let f = (inverse_entries n b h).zeros in
    ap (product b) (matrix_same e11 e12 e13 (z.0 ∙ sym f.0) e22 e23 (z.1 ∙ sym f.1) (z.2 ∙ sym f.2) e33) ∙ h.is
