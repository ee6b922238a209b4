-- How large the matrix to a triangular basis is: each entry has at most the size of the index.
--
-- On the diagonal are the a_i = n / s_i, whose product is the index. Above it, s1 times the entry is x2 times a2, and x2 is
-- at most s1; and so on.
use Rattle.std.proofs.Common.{◌≡◌, ℕ, suc, zero, ℤ, pos, negsuc, ◌+ℤ◌, ◌*ℤ◌, neg_ℤ, ◌≤ℤ◌, ◌<ℤ◌, [], ◌∷◌, refl, sym, ap, subst, ◌∙◌, arith}
use Rattle.std.proofs.lemmas.Int.{ints}
use Rattle.ring.specs.Ring.{var, con, ◌:+◌, ◌:-◌, ◌:*◌, opposite}
use Rattle.ring.proofs.IntOrder.{weaken_lt, mul_pos, mul_nonneg, nonneg_of_mul, sub_nonneg, le_by_sub}
use Rattle.matrix3.specs.Matrices.{EachEntry}
use Rattle.crystal_spec.specs.Matrices.{Triple, Matrix, image, determinant, multiple}
use Rattle.basis_spec.specs.StepBases.{IsLattice, IsStepBasis}
use Rattle.positions.specs.Positions.{triple}
use Rattle.crystal_spec.proofs.Entrywise.{triple_same}
use Rattle.basis_spec.proofs.MatrixLaws.{axis1, axis2, axis3, columns_of}
use Rattle.basis_spec.proofs.Cancelling.{mul_cancel}
use Rattle.basis_spec.proofs.StepBases.{back, basis-back}
use Rattle.basis_spec.proofs.StepIndex.{index_cube}
use Rattle.basis_spec.proofs.Positive.{pos_of_mul}
use Rattle.crystal_spec.proofs.Identities.{by_integers}

-- from -m up to m
pub record IsWithin (m z : ℤ) : Type 0 where
  pub low : neg_ℤ m ≤ℤ z
  pub high : z ≤ℤ m

le_cancel : (s u v : ℤ) → pos 0 <ℤ s → (s *ℤ u) ≤ℤ (s *ℤ v) → u ≤ℤ v
le_cancel s u v p h = le_by_sub u v (nonneg_of_mul s (v +ℤ neg_ℤ u) p (subst (λ (z : ℤ). pos 0 ≤ℤ z) (by_integers (s ∷ u ∷ v ∷ []) (var 0 :* var 2 :- var 0 :* var 1) (var 0 :* (var 2 :- var 1)) refl) (sub_nonneg (s *ℤ u) (s *ℤ v) h)))

mul_mono : (x s a : ℤ) → x ≤ℤ s → pos 0 ≤ℤ a → (x *ℤ a) ≤ℤ (s *ℤ a)
mul_mono x s a h k = le_by_sub (x *ℤ a) (s *ℤ a) (subst (λ (z : ℤ). pos 0 ≤ℤ z) (by_integers (x ∷ s ∷ a ∷ []) ((var 1 :- var 0) :* var 2) (var 1 :* var 2 :- var 0 :* var 2) refl) (mul_nonneg (s +ℤ neg_ℤ x) a (sub_nonneg x s h) k))

opposites : (v w : ℤ) → v ≤ℤ w → pos 0 ≤ℤ v → (neg_ℤ w ≤ℤ neg_ℤ v) × (neg_ℤ v ≤ℤ w)
opposites v w h k = (omega (arith, ints), omega (arith, ints))

product_low : (s a : ℤ) → neg_ℤ (s *ℤ a) ≡ s *ℤ neg_ℤ a
product_low s a = by_integers (s ∷ a ∷ []) (opposite (var 0 :* var 1)) (var 0 :* opposite (var 1)) refl

-- s z = - x a with x from 0 to s
pub part_within : (s x a z : ℤ) → pos 0 <ℤ s → pos 0 ≤ℤ x → x ≤ℤ s → pos 0 ≤ℤ a → s *ℤ z ≡ neg_ℤ (x *ℤ a) → IsWithin a z
part_within s x a z p h k l e =
    let b = opposites (x *ℤ a) (s *ℤ a) (mul_mono x s a k l) (mul_nonneg x a h l) in
    record {
      low = le_cancel s (neg_ℤ a) z p (subst (λ v. (s *ℤ neg_ℤ a) ≤ℤ v) (sym e) (subst (λ v. v ≤ℤ neg_ℤ (x *ℤ a)) (product_low s a) b.0));
      high = le_cancel s z a p (subst (λ v. v ≤ℤ (s *ℤ a)) (sym e) b.1);
    }

-- s z = u - w with u and w from 0 to s a
difference_within : (s a u w z : ℤ) → pos 0 <ℤ s → pos 0 ≤ℤ u → u ≤ℤ (s *ℤ a) → pos 0 ≤ℤ w → w ≤ℤ (s *ℤ a) → s *ℤ z ≡ u +ℤ neg_ℤ w → IsWithin a z
difference_within s a u w z p h h' k k' e = record {
  low = le_cancel s (neg_ℤ a) z p (subst (λ v. (s *ℤ neg_ℤ a) ≤ℤ v) (sym e) (subst (λ v. v ≤ℤ (u +ℤ neg_ℤ w)) (product_low s a) (bounds u w (s *ℤ a) h h' k k').0));
  high = le_cancel s z a p (subst (λ v. v ≤ℤ (s *ℤ a)) (sym e) (bounds u w (s *ℤ a) h h' k k').1);
}
  where
    bounds : (u w m : ℤ) → pos 0 ≤ℤ u → u ≤ℤ m → pos 0 ≤ℤ w → w ≤ℤ m → (neg_ℤ m ≤ℤ (u +ℤ neg_ℤ w)) × ((u +ℤ neg_ℤ w) ≤ℤ m)
    bounds u w m a b c d = (omega (arith, ints), omega (arith, ints))

record IsQuotient (n : ℕ) (s a : ℤ) : Type 0 where
  is : s *ℤ a ≡ pos n
  some : pos 0 <ℤ a

quotient_some : (n : ℕ) (s a : ℤ) → pos 0 <ℤ pos n → pos 0 <ℤ s → s *ℤ a ≡ pos n → IsQuotient n s a
quotient_some n s a p h e = record { is = e; some = pos_of_mul s a h (subst (λ (v : ℤ). pos 0 <ℤ v) (sym e) p) }

module _ (n : ℕ) (in_it : Triple → Type 0) (l : IsLattice n in_it) (b : Matrix) (s : IsStepBasis in_it b) (some : pos 0 <ℤ pos n) where
  r : Matrix
  r = back n in_it l b s

  -- the columns of the basis times back, coordinate by coordinate
  third_at : (v : Triple) → b.a33 *ℤ (image r v).z ≡ pos n *ℤ v.z
  unfolding r
  third_at v = by_integers (b.a33 ∷ (image (back n in_it l b s) v).x ∷ (image (back n in_it l b s) v).y ∷ (image (back n in_it l b s) v).z ∷ []) (var 0 :* var 3) ((con (pos 0) :* var 1 :+ con (pos 0) :* var 2) :+ var 0 :* var 3) refl
      ∙ (λ i. (sym s.zeros.1 i *ℤ (image (back n in_it l b s) v).x +ℤ sym s.zeros.2 i *ℤ (image (back n in_it l b s) v).y) +ℤ b.a33 *ℤ (image (back n in_it l b s) v).z) ∙ ap (λ (t : Triple). t.z) (basis-back n in_it l b s v)

  second_at : (v : Triple) → b.a22 *ℤ (image r v).y +ℤ b.a23 *ℤ (image r v).z ≡ pos n *ℤ v.y
  unfolding r
  second_at v = by_integers (b.a22 ∷ b.a23 ∷ (image (back n in_it l b s) v).x ∷ (image (back n in_it l b s) v).y ∷ (image (back n in_it l b s) v).z ∷ []) (var 0 :* var 3 :+ var 1 :* var 4) ((con (pos 0) :* var 2 :+ var 0 :* var 3) :+ var 1 :* var 4) refl
      ∙ (λ i. (sym s.zeros.0 i *ℤ (image (back n in_it l b s) v).x +ℤ b.a22 *ℤ (image (back n in_it l b s) v).y) +ℤ b.a23 *ℤ (image (back n in_it l b s) v).z) ∙ ap (λ (t : Triple). t.y) (basis-back n in_it l b s v)

  first_at : (v : Triple) → (b.a11 *ℤ (image r v).x +ℤ b.a12 *ℤ (image r v).y) +ℤ b.a13 *ℤ (image r v).z ≡ pos n *ℤ v.x
  unfolding r
  first_at v = ap (λ (t : Triple). t.x) (basis-back n in_it l b s v)

  none : (k a : ℤ) → pos 0 <ℤ k → k *ℤ a ≡ pos n *ℤ pos 0 → a ≡ pos 0
  none k a p e = mul_cancel k a (pos 0) p (e ∙ by_integers (pos n ∷ k ∷ []) (var 0 :* con (pos 0)) (var 1 :* con (pos 0)) refl)

  -- n times 1
  pub times_one : pos n *ℤ pos 1 ≡ pos n
  times_one = by_integers (pos n ∷ []) (var 0 :* con (pos 1)) (var 0) refl

  -- x2 is below s1
  pub x2_below : b.a12 ≤ℤ b.a11
  x2_below = le_by_sub b.a12 b.a11 (by (b.a11 +ℤ neg_ℤ b.a12) refl)
    where
      moved : in_it (triple (b.a12 +ℤ negsuc 0 *ℤ b.a11) (b.a22 +ℤ negsuc 0 *ℤ pos 0) (pos 0 +ℤ negsuc 0 *ℤ pos 0))
      moved = l.sums (triple b.a12 b.a22 (pos 0)) (multiple (negsuc 0) (triple b.a11 (pos 0) (pos 0))) s.second_in (l.opposites (triple b.a11 (pos 0) (pos 0)) s.first.it_holds)

      same_y : (a : ℤ) → a +ℤ negsuc 0 *ℤ pos 0 ≡ a
      same_y a = by_integers (a ∷ []) (var 0 :+ con (negsuc 0) :* con (pos 0)) (var 0) refl

      there : in_it (triple (b.a12 +ℤ negsuc 0 *ℤ b.a11) b.a22 (pos 0))
      there = subst in_it (triple_same refl (same_y b.a22) (same_y (pos 0))) moved

      from_zero : (a c : ℤ) (m : ℕ) → c +ℤ neg_ℤ a ≡ negsuc m → pos 0 ≤ℤ (a +ℤ negsuc 0 *ℤ c)
      from_zero a c m e = omega (arith, ints)

      not_less : (a c : ℤ) → pos 0 <ℤ c → a ≤ℤ (a +ℤ negsuc 0 *ℤ c) → ⊥
      not_less a c h k = omega (arith, ints)

      by : (d : ℤ) → b.a11 +ℤ neg_ℤ b.a12 ≡ d → pos 0 ≤ℤ d
      by (pos d) e = omega (arith, ints)
      by (negsuc d) e = absurd (not_less b.a12 b.a11 s.first.positive (s.second_least (b.a12 +ℤ negsuc 0 *ℤ b.a11) (from_zero b.a12 b.a11 d e) there))

  zero_times : (k a : ℤ) → a ≡ pos 0 → k *ℤ a ≡ pos 0
  zero_times k a e = ap (λ v. k *ℤ v) e ∙ by_integers (k ∷ []) (var 0 :* con (pos 0)) (con (pos 0)) refl

  left_zero : (u v : ℤ) → v ≡ pos 0 → u +ℤ v ≡ u
  left_zero u v e = ap (λ w. u +ℤ w) e ∙ by_integers (u ∷ []) (var 0 :+ con (pos 0)) (var 0) refl

  other_side : (u v : ℤ) → u +ℤ v ≡ pos 0 → u ≡ neg_ℤ v
  other_side u v e = by_integers (u ∷ v ∷ []) (var 0) ((var 0 :+ var 1) :- var 1) refl ∙ ap (λ w. w +ℤ neg_ℤ v) e ∙ by_integers (v ∷ []) (con (pos 0) :- var 0) (opposite (var 0)) refl

  -- n times 0
  pub times_none : pos n *ℤ pos 0 ≡ pos 0
  times_none = by_integers (pos n ∷ []) (var 0 :* con (pos 0)) (con (pos 0)) refl

  column : Triple → Triple
  column v = image r v

  c1z : (image r axis1).z ≡ pos 0
  c1z = none b.a33 (image r axis1).z s.third.positive (third_at axis1)

  c1y : (image r axis1).y ≡ pos 0
  c1y = none b.a22 (image r axis1).y s.second.positive (sym (left_zero (b.a22 *ℤ (image r axis1).y) (b.a23 *ℤ (image r axis1).z) (zero_times b.a23 (image r axis1).z c1z)) ∙ second_at axis1)

  a1 : IsQuotient n b.a11 (image r axis1).x
  a1 = quotient_some n b.a11 (image r axis1).x some s.first.positive
      (sym (left_zero (b.a11 *ℤ (image r axis1).x +ℤ b.a12 *ℤ (image r axis1).y) (b.a13 *ℤ (image r axis1).z) (zero_times b.a13 (image r axis1).z c1z) ∙ left_zero (b.a11 *ℤ (image r axis1).x) (b.a12 *ℤ (image r axis1).y) (zero_times b.a12 (image r axis1).y c1y)) ∙ first_at axis1 ∙ times_one)

  c2z : (image r axis2).z ≡ pos 0
  c2z = none b.a33 (image r axis2).z s.third.positive (third_at axis2)

  a2 : IsQuotient n b.a22 (image r axis2).y
  a2 = quotient_some n b.a22 (image r axis2).y some s.second.positive (sym (left_zero (b.a22 *ℤ (image r axis2).y) (b.a23 *ℤ (image r axis2).z) (zero_times b.a23 (image r axis2).z c2z)) ∙ second_at axis2 ∙ times_one)

  c2x : b.a11 *ℤ (image r axis2).x ≡ neg_ℤ (b.a12 *ℤ (image r axis2).y)
  c2x = other_side (b.a11 *ℤ (image r axis2).x) (b.a12 *ℤ (image r axis2).y) (sym (left_zero (b.a11 *ℤ (image r axis2).x +ℤ b.a12 *ℤ (image r axis2).y) (b.a13 *ℤ (image r axis2).z) (zero_times b.a13 (image r axis2).z c2z)) ∙ first_at axis2 ∙ times_none)

  a3 : IsQuotient n b.a33 (image r axis3).z
  a3 = quotient_some n b.a33 (image r axis3).z some s.third.positive (third_at axis3 ∙ times_one)

  c3y : b.a22 *ℤ (image r axis3).y ≡ neg_ℤ (b.a23 *ℤ (image r axis3).z)
  c3y = other_side (b.a22 *ℤ (image r axis3).y) (b.a23 *ℤ (image r axis3).z) (second_at axis3 ∙ times_none)

  c3x : b.a11 *ℤ (image r axis3).x ≡ b.a12 *ℤ neg_ℤ (image r axis3).y +ℤ neg_ℤ (b.a13 *ℤ (image r axis3).z)
  c3x = by (b.a11 *ℤ (image r axis3).x) b.a12 (image r axis3).y (b.a13 *ℤ (image r axis3).z) (first_at axis3 ∙ times_none)
    where
      by : (u c y w : ℤ) → (u +ℤ c *ℤ y) +ℤ w ≡ pos 0 → u ≡ c *ℤ neg_ℤ y +ℤ neg_ℤ w
      by u c y w e = by_integers (u ∷ c ∷ y ∷ w ∷ []) (var 0) (((var 0 :+ var 1 :* var 2) :+ var 3) :+ (var 1 :* opposite (var 2) :+ opposite (var 3))) refl
          ∙ ap (λ v. v +ℤ (c *ℤ neg_ℤ y +ℤ neg_ℤ w)) e ∙ by_integers ((c *ℤ neg_ℤ y +ℤ neg_ℤ w) ∷ []) (con (pos 0) :+ var 0) (var 0) refl

  x_of_2 : IsWithin (image r axis2).y (image r axis2).x
  x_of_2 = part_within b.a11 b.a12 (image r axis2).y (image r axis2).x s.first.positive s.second_from x2_below (weaken_lt (pos 0) (image r axis2).y a2.some) c2x

  y_of_3 : IsWithin (image r axis3).z (image r axis3).y
  y_of_3 = part_within b.a22 b.a23 (image r axis3).z (image r axis3).y s.second.positive s.third_y.0 (weaken_lt b.a23 b.a22 s.third_y.1) (weaken_lt (pos 0) (image r axis3).z a3.some) c3y

  -- the second entry of the third column is at most 0
  y_down : pos 0 ≤ℤ neg_ℤ (image r axis3).y
  y_down = nonneg_of_mul b.a22 (neg_ℤ (image r axis3).y) s.second.positive
      (subst (λ (v : ℤ). pos 0 ≤ℤ v) (sym (turned b.a22 (image r axis3).y ∙ ap neg_ℤ c3y ∙ twice (b.a23 *ℤ (image r axis3).z))) (mul_nonneg b.a23 (image r axis3).z s.third_y.0 (weaken_lt (pos 0) (image r axis3).z a3.some)))
    where
      turned : (k y : ℤ) → k *ℤ neg_ℤ y ≡ neg_ℤ (k *ℤ y)
      turned k y = by_integers (k ∷ y ∷ []) (var 0 :* opposite (var 1)) (opposite (var 0 :* var 1)) refl

      twice : (v : ℤ) → neg_ℤ (neg_ℤ v) ≡ v
      twice v = by_integers (v ∷ []) (opposite (opposite (var 0))) (var 0) refl

  up_to : (a y : ℤ) → neg_ℤ a ≤ℤ y → neg_ℤ y ≤ℤ a
  up_to a y h = omega (arith, ints)

  both_up : (x s y a : ℤ) → pos 0 ≤ℤ x → x ≤ℤ s → pos 0 ≤ℤ y → y ≤ℤ a → pos 0 ≤ℤ a → (x *ℤ y) ≤ℤ (s *ℤ a)
  both_up x s y a h k i j z = le_trans (x *ℤ y) (s *ℤ y) (s *ℤ a) (mul_mono x s y k i) (subst (λ v. v ≤ℤ (s *ℤ a)) (turned y s) (subst (λ v. (y *ℤ s) ≤ℤ v) (turned a s) (mul_mono y a s j (le_trans (pos 0) x s h k))))
    where
      le_trans : (u v w : ℤ) → u ≤ℤ v → v ≤ℤ w → u ≤ℤ w
      le_trans u v w h k = omega (arith, ints)

      turned : (u v : ℤ) → u *ℤ v ≡ v *ℤ u
      turned u v = by_integers (u ∷ v ∷ []) (var 0 :* var 1) (var 1 :* var 0) refl

  x_of_3 : IsWithin (image r axis3).z (image r axis3).x
  x_of_3 = difference_within b.a11 (image r axis3).z (b.a12 *ℤ neg_ℤ (image r axis3).y) (b.a13 *ℤ (image r axis3).z) (image r axis3).x s.first.positive
      (mul_nonneg b.a12 (neg_ℤ (image r axis3).y) s.second_from y_down)
      (both_up b.a12 b.a11 (neg_ℤ (image r axis3).y) (image r axis3).z s.second_from x2_below y_down (up_to (image r axis3).z (image r axis3).y y_of_3.low) (weaken_lt (pos 0) (image r axis3).z a3.some))
      (mul_nonneg b.a13 (image r axis3).z s.third_x.0 (weaken_lt (pos 0) (image r axis3).z a3.some))
      (mul_mono b.a13 b.a11 (image r axis3).z (weaken_lt b.a13 b.a11 s.third_x.1) (weaken_lt (pos 0) (image r axis3).z a3.some))
      c3x

  -- the index is the product of the three quotients
  index_product : determinant r ≡ (image r axis1).x *ℤ ((image r axis2).y *ℤ (image r axis3).z)
  unfolding r
  index_product = mul_cancel (b.a11 *ℤ (b.a22 *ℤ b.a33)) (determinant (back n in_it l b s)) ((image (back n in_it l b s) axis1).x *ℤ ((image (back n in_it l b s) axis2).y *ℤ (image (back n in_it l b s) axis3).z))
      (mul_pos b.a11 (b.a22 *ℤ b.a33) s.first.positive (mul_pos b.a22 b.a33 s.second.positive s.third.positive))
      (by_integers ((b.a11 *ℤ (b.a22 *ℤ b.a33)) ∷ determinant (back n in_it l b s) ∷ []) (var 0 :* var 1) (var 1 :* var 0) refl ∙ index_cube n in_it l b s
      ∙ sym (by_integers (b.a11 ∷ b.a22 ∷ b.a33 ∷ (image (back n in_it l b s) axis1).x ∷ (image (back n in_it l b s) axis2).y ∷ (image (back n in_it l b s) axis3).z ∷ []) ((var 0 :* (var 1 :* var 2)) :* (var 3 :* (var 4 :* var 5))) ((var 0 :* var 3) :* ((var 1 :* var 4) :* (var 2 :* var 5))) refl
      ∙ (λ i. a1.is i *ℤ (a2.is i *ℤ a3.is i))))

  -- each quotient is at most the index
  at_most_product : (u v : ℤ) → pos 0 <ℤ u → pos 0 <ℤ v → u ≤ℤ (u *ℤ v)
  at_most_product (pos u) (pos zero) h k = absurd (omega (arith, ints))
  at_most_product (pos u) (pos (suc v)) h k = omega (arith, ints)
  at_most_product (pos u) (negsuc v) h k = absurd k.lt
  at_most_product (negsuc u) v h k = absurd h.lt

  rearranged1 : (u v w : ℤ) → v *ℤ (u *ℤ w) ≡ u *ℤ (v *ℤ w)
  rearranged1 u v w = by_integers (u ∷ v ∷ w ∷ []) (var 1 :* (var 0 :* var 2)) (var 0 :* (var 1 :* var 2)) refl

  rearranged2 : (u v w : ℤ) → w *ℤ (u *ℤ v) ≡ u *ℤ (v *ℤ w)
  rearranged2 u v w = by_integers (u ∷ v ∷ w ∷ []) (var 2 :* (var 0 :* var 1)) (var 0 :* (var 1 :* var 2)) refl

  a1_small : (image r axis1).x ≤ℤ determinant r
  a1_small = subst (λ v. (image r axis1).x ≤ℤ v) (sym index_product) (at_most_product (image r axis1).x ((image r axis2).y *ℤ (image r axis3).z) a1.some (mul_pos (image r axis2).y (image r axis3).z a2.some a3.some))

  a2_small : (image r axis2).y ≤ℤ determinant r
  a2_small = subst (λ v. (image r axis2).y ≤ℤ v) (rearranged1 (image r axis1).x (image r axis2).y (image r axis3).z ∙ sym index_product) (at_most_product (image r axis2).y ((image r axis1).x *ℤ (image r axis3).z) a2.some (mul_pos (image r axis1).x (image r axis3).z a1.some a3.some))

  a3_small : (image r axis3).z ≤ℤ determinant r
  a3_small = subst (λ v. (image r axis3).z ≤ℤ v) (rearranged2 (image r axis1).x (image r axis2).y (image r axis3).z ∙ sym index_product) (at_most_product (image r axis3).z ((image r axis1).x *ℤ (image r axis2).y) a3.some (mul_pos (image r axis1).x (image r axis2).y a1.some a2.some))

  widened : (a m z : ℤ) → a ≤ℤ m → IsWithin a z → IsWithin m z
  widened a m z h w = let k = w.low in let j = w.high in record { low = omega (arith, ints); high = omega (arith, ints) }

  itself : (a m : ℤ) → pos 0 <ℤ a → a ≤ℤ m → IsWithin m a
  itself a m h k = record { low = omega (arith, ints); high = k }

  zero_within : (m z : ℤ) → z ≡ pos 0 → pos 0 ≤ℤ m → IsWithin m z
  zero_within m z e h = record { low = omega (arith, ints); high = omega (arith, ints) }

  index_above : pos 0 ≤ℤ determinant r
  index_above = through (image r axis1).x (determinant r) a1.some a1_small
    where
      through : (a m : ℤ) → pos 0 <ℤ a → a ≤ℤ m → pos 0 ≤ℤ m
      through a m h k = omega (arith, ints)

  -- each entry of back has at most the size of the index
  pub back_small : EachEntry (IsWithin (determinant (back n in_it l b s))) (back n in_it l b s)
  unfolding r
  back_small = subst (EachEntry (IsWithin (determinant (back n in_it l b s)))) (columns_of (back n in_it l b s)) (record {
    a11 = itself (image (back n in_it l b s) axis1).x (determinant (back n in_it l b s)) a1.some a1_small;
    a12 = widened (image (back n in_it l b s) axis2).y (determinant (back n in_it l b s)) (image (back n in_it l b s) axis2).x a2_small x_of_2;
    a13 = widened (image (back n in_it l b s) axis3).z (determinant (back n in_it l b s)) (image (back n in_it l b s) axis3).x a3_small x_of_3;
    a21 = zero_within (determinant (back n in_it l b s)) (image (back n in_it l b s) axis1).y c1y index_above;
    a22 = itself (image (back n in_it l b s) axis2).y (determinant (back n in_it l b s)) a2.some a2_small;
    a23 = widened (image (back n in_it l b s) axis3).z (determinant (back n in_it l b s)) (image (back n in_it l b s) axis3).y a3_small y_of_3;
    a31 = zero_within (determinant (back n in_it l b s)) (image (back n in_it l b s) axis1).z c1z index_above;
    a32 = zero_within (determinant (back n in_it l b s)) (image (back n in_it l b s) axis2).z c2z index_above;
    a33 = itself (image (back n in_it l b s) axis3).z (determinant (back n in_it l b s)) a3.some a3_small;
  })

  -- n · fore = index · basis, whose entries are from 0 to n
  step_small : (k a : ℤ) → pos 0 <ℤ k → pos 0 <ℤ a → k *ℤ a ≡ pos n → k ≤ℤ pos n
  step_small k a h j e = subst (λ v. k ≤ℤ v) e (at_most_product k a h j)

  -- an integer f with n f = h k, where k is from 0 to n, is from -h to h
  pub ratio_within : (f h k : ℤ) → pos 0 ≤ℤ h → pos 0 ≤ℤ k → k ≤ℤ pos n → pos n *ℤ f ≡ h *ℤ k → IsWithin h f
  ratio_within f h k p q j e = record {
    low = down f h p (nonneg_of_mul (pos n) f some (subst (λ (v : ℤ). pos 0 ≤ℤ v) (sym e) (mul_nonneg h k p q)));
    high = le_cancel (pos n) f h some (subst (λ v. v ≤ℤ (pos n *ℤ h)) (sym (e ∙ turned h k)) (mul_mono k (pos n) h j p));
  }
    where
      down : (f h : ℤ) → pos 0 ≤ℤ h → pos 0 ≤ℤ f → neg_ℤ h ≤ℤ f
      down f h p q = omega (arith, ints)

      turned : (u v : ℤ) → u *ℤ v ≡ v *ℤ u
      turned u v = by_integers (u ∷ v ∷ []) (var 0 :* var 1) (var 1 :* var 0) refl
