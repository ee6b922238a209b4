-- A positive metric tensor is positive in every basis.
--
-- Where the leading minors are positive, the squared length of each vector other than 0 is: aa D q is a sum of squares
-- with positive factors. The squared length in another basis is that of the image. And a symmetric matrix of which all
-- squared lengths, and the determinant, are positive has positive leading minors, each told by one vector.
use Rattle.std.proofs.Common.{◌≡◌, suc, zero, ℤ, pos, negsuc, ◌+ℤ◌, ◌*ℤ◌, neg_ℤ, ◌≤ℤ◌, ◌<ℤ◌, [], ◌∷◌, refl, sym, ap, subst, ◌∙◌, ◌⊎◌, inl, inr, arith}
use Rattle.std.proofs.lemmas.Int.{ints}
use Rattle.ring.specs.Ring.{var, con, ◌:+◌, ◌:-◌, ◌:*◌, opposite}
use Rattle.ring.proofs.IntOrder.{weaken_lt, mul_pos, mul_nonneg, sq_nonneg}
use Rattle.crystal_spec.specs.Matrices.{Triple, Matrix, image, determinant, adjugate, transposed}
use Rattle.basis_spec.specs.Metrics.{metric_in}
use Rattle.basis_spec.proofs.MatrixLaws.{squared_length, squared_length-metric_in, determinant-metric_in, determinant-adjugate, metric_in-transposed, image-multiple, multiple-zero}
use Rattle.positions.specs.Positions.{origin, triple}
use Rattle.crystal_spec.specs.Crystals.{IsPositive}
use Rattle.crystal_spec.proofs.Entrywise.{triple_same, matrix_same}
use Rattle.basis_spec.proofs.Cancelling.{image_cancel, square_positive}
use Rattle.crystal_spec.proofs.Identities.{by_integers}

-- a positive factor of a positive product leaves a positive one
pub pos_of_mul : (a x : ℤ) → pos 0 <ℤ a → pos 0 <ℤ (a *ℤ x) → pos 0 <ℤ x
pos_of_mul a (pos zero) p h = absurd (omega (arith, ints))
pos_of_mul a (pos (suc n)) p h = omega (arith, ints)
pos_of_mul (pos zero) (negsuc n) p h = absurd (omega (arith, ints))
pos_of_mul (pos (suc a)) (negsuc n) p h = absurd (omega (arith, ints))
pos_of_mul (negsuc a) (negsuc n) p h = absurd p.lt

square_above : (a : ℤ) → (a ≡ pos 0 → ⊥) → pos 0 <ℤ (a *ℤ a)
square_above (pos zero) h = absurd (h refl)
square_above (pos (suc n)) h = omega (arith, ints)
square_above (negsuc n) h = omega (arith, ints)

is_zero : (a : ℤ) → (a ≡ pos 0) ⊎ (a ≡ pos 0 → ⊥)
is_zero (pos zero) = inl refl
is_zero (pos (suc n)) = inr (λ e. omega (arith, ints))
is_zero (negsuc n) = inr (λ e. omega (arith, ints))

sum_above3 : (a b c : ℤ) → pos 0 ≤ℤ a → pos 0 ≤ℤ b → pos 0 <ℤ c → pos 0 <ℤ ((a +ℤ b) +ℤ c)
sum_above3 a b c h k l = omega (arith, ints)

sum_above2 : (a b : ℤ) → pos 0 ≤ℤ a → pos 0 <ℤ b → pos 0 <ℤ (a +ℤ b)
sum_above2 a b h k = omega (arith, ints)

not_zero_product : (a b : ℤ) → pos 0 <ℤ a → (b ≡ pos 0 → ⊥) → a *ℤ b ≡ pos 0 → ⊥
not_zero_product (pos zero) b p h e = absurd (omega (arith, ints))
not_zero_product (pos (suc a)) (pos zero) p h e = h refl
not_zero_product (pos (suc a)) (pos (suc b)) p h e = omega (arith, ints)
not_zero_product (pos (suc a)) (negsuc b) p h e = omega (arith, ints)
not_zero_product (negsuc a) b p h e = absurd p.lt

-- a symmetric matrix by its six numbers
abbrev pub six : ℤ → ℤ → ℤ → ℤ → ℤ → ℤ → Matrix
six aa bb c bc ac ab = record { a11 = aa; a12 = ab; a13 = ac; a21 = ab; a22 = bb; a23 = bc; a31 = ac; a32 = bc; a33 = c }

-- a symmetric matrix is told by six numbers
pub by_six : (g : Matrix) → transposed g ≡ g → six g.a11 g.a22 g.a33 g.a23 g.a13 g.a12 ≡ g
by_six g e = matrix_same refl refl refl (ap (λ (m : Matrix). m.a21) e) refl refl (ap (λ (m : Matrix). m.a31) e) (ap (λ (m : Matrix). m.a32) e) refl

module _ (aa bb c bc ac ab : ℤ) (p : IsPositive (six aa bb c bc ac ab)) where
  unfoldable pub d : ℤ
  d = aa *ℤ bb +ℤ neg_ℤ (ab *ℤ ab)

  pub d_above : pos 0 <ℤ d
  unfolding d
  d_above = p.second

  -- aa D q = D (aa x + ab y + ac z)² + (D y + E z)² + aa h z²
  pub cauchy : (x y z : ℤ) → (aa *ℤ d) *ℤ squared_length (six aa bb c bc ac ab) (triple x y z) ≡
      (d *ℤ (((aa *ℤ x +ℤ ab *ℤ y) +ℤ ac *ℤ z) *ℤ ((aa *ℤ x +ℤ ab *ℤ y) +ℤ ac *ℤ z))
      +ℤ (d *ℤ y +ℤ (aa *ℤ bc +ℤ neg_ℤ (ab *ℤ ac)) *ℤ z) *ℤ (d *ℤ y +ℤ (aa *ℤ bc +ℤ neg_ℤ (ab *ℤ ac)) *ℤ z))
      +ℤ (aa *ℤ determinant (six aa bb c bc ac ab)) *ℤ (z *ℤ z)
  unfolding d
  cauchy x y z =
      let a' = var 0 in let b' = var 1 in let c' = var 2 in let bc' = var 3 in let ac' = var 4 in let ab' = var 5 in
      let d' = a' :* b' :- ab' :* ab' in
      let e' = a' :* bc' :- ab' :* ac' in
      let u' = (a' :* var 6 :+ ab' :* var 7) :+ ac' :* var 8 in
      let w' = d' :* var 7 :+ e' :* var 8 in
      let q' = var 6 :* ((a' :* var 6 :+ ab' :* var 7) :+ ac' :* var 8) :+ var 7 :* ((ab' :* var 6 :+ b' :* var 7) :+ bc' :* var 8) :+ var 8 :* ((ac' :* var 6 :+ bc' :* var 7) :+ c' :* var 8) in
      let h' = (a' :* (b' :* c' :- bc' :* bc') :- ab' :* (ab' :* c' :- bc' :* ac')) :+ ac' :* (ab' :* bc' :- b' :* ac') in
      by_integers (aa ∷ bb ∷ c ∷ bc ∷ ac ∷ ab ∷ x ∷ y ∷ z ∷ []) ((a' :* d') :* q') ((d' :* (u' :* u') :+ w' :* w') :+ (a' :* h') :* (var 8 :* var 8)) refl

  norm_six : (x y z : ℤ) → (triple x y z ≡ origin → ⊥) → pos 0 <ℤ squared_length (six aa bb c bc ac ab) (triple x y z)
  norm_six x y z h = pos_of_mul (aa *ℤ d) (squared_length (six aa bb c bc ac ab) (triple x y z)) (mul_pos aa d p.first d_above) (subst (λ (v : ℤ). pos 0 <ℤ v) (sym (cauchy x y z)) (by (is_zero z) (is_zero y) (is_zero x)))
    where
      u : ℤ → ℤ → ℤ → ℤ
      u x y z = (aa *ℤ x +ℤ ab *ℤ y) +ℤ ac *ℤ z

      w : ℤ → ℤ → ℤ
      w y z = d *ℤ y +ℤ (aa *ℤ bc +ℤ neg_ℤ (ab *ℤ ac)) *ℤ z

      l : ℤ
      l = aa *ℤ determinant (six aa bb c bc ac ab)

      w_at : (y : ℤ) → w y (pos 0) ≡ d *ℤ y
      w_at y = by_integers (d ∷ y ∷ (aa *ℤ bc +ℤ neg_ℤ (ab *ℤ ac)) ∷ []) (var 0 :* var 1 :+ var 2 :* con (pos 0)) (var 0 :* var 1) refl

      u_at : (x : ℤ) → u x (pos 0) (pos 0) ≡ aa *ℤ x
      u_at x = by_integers (aa ∷ ab ∷ ac ∷ x ∷ []) ((var 0 :* var 3 :+ var 1 :* con (pos 0)) :+ var 2 :* con (pos 0)) (var 0 :* var 3) refl

      sum_zero : (a b : ℤ) → a +ℤ b *ℤ (pos 0 *ℤ pos 0) ≡ a
      sum_zero a b = by_integers (a ∷ b ∷ []) (var 0 :+ var 1 :* (con (pos 0) :* con (pos 0))) (var 0) refl

      swap_sum : (a b : ℤ) → b +ℤ a ≡ a +ℤ b
      swap_sum a b = by_integers (a ∷ b ∷ []) (var 1 :+ var 0) (var 0 :+ var 1) refl

      l_above : pos 0 <ℤ l
      l_above = mul_pos aa (determinant (six aa bb c bc ac ab)) p.first p.third

      by : (z ≡ pos 0) ⊎ (z ≡ pos 0 → ⊥) → (y ≡ pos 0) ⊎ (y ≡ pos 0 → ⊥) → (x ≡ pos 0) ⊎ (x ≡ pos 0 → ⊥) → pos 0 <ℤ ((d *ℤ (u x y z *ℤ u x y z) +ℤ w y z *ℤ w y z) +ℤ l *ℤ (z *ℤ z))
      by (inr k) j i = sum_above3 (d *ℤ (u x y z *ℤ u x y z)) (w y z *ℤ w y z) (l *ℤ (z *ℤ z)) (mul_nonneg d (u x y z *ℤ u x y z) (weaken_lt (pos 0) d d_above) (sq_nonneg (u x y z))) (sq_nonneg (w y z)) (mul_pos l (z *ℤ z) l_above (square_above z k))
      by (inl e) (inr k) i = subst (λ (v : ℤ). pos 0 <ℤ ((d *ℤ (u x y v *ℤ u x y v) +ℤ w y v *ℤ w y v) +ℤ l *ℤ (v *ℤ v))) (sym e)
          (subst (λ (v : ℤ). pos 0 <ℤ v) (sym (sum_zero (d *ℤ (u x y (pos 0) *ℤ u x y (pos 0)) +ℤ w y (pos 0) *ℤ w y (pos 0)) l))
          (sum_above2 (d *ℤ (u x y (pos 0) *ℤ u x y (pos 0))) (w y (pos 0) *ℤ w y (pos 0)) (mul_nonneg d (u x y (pos 0) *ℤ u x y (pos 0)) (weaken_lt (pos 0) d d_above) (sq_nonneg (u x y (pos 0))))
          (square_above (w y (pos 0)) (λ f. not_zero_product d y d_above k (sym (w_at y) ∙ f)))))
      by (inl e) (inl f) (inr k) = subst (λ (v : ℤ). pos 0 <ℤ ((d *ℤ (u x y v *ℤ u x y v) +ℤ w y v *ℤ w y v) +ℤ l *ℤ (v *ℤ v))) (sym e)
          (subst (λ (t : ℤ). pos 0 <ℤ ((d *ℤ (u x t (pos 0) *ℤ u x t (pos 0)) +ℤ w t (pos 0) *ℤ w t (pos 0)) +ℤ l *ℤ (pos 0 *ℤ pos 0))) (sym f)
          (subst (λ (v : ℤ). pos 0 <ℤ v) (sym (sum_zero (d *ℤ (u x (pos 0) (pos 0) *ℤ u x (pos 0) (pos 0)) +ℤ w (pos 0) (pos 0) *ℤ w (pos 0) (pos 0)) l))
          (subst (λ (v : ℤ). pos 0 <ℤ v) (swap_sum (d *ℤ (u x (pos 0) (pos 0) *ℤ u x (pos 0) (pos 0))) (w (pos 0) (pos 0) *ℤ w (pos 0) (pos 0)))
          (sum_above2 (w (pos 0) (pos 0) *ℤ w (pos 0) (pos 0)) (d *ℤ (u x (pos 0) (pos 0) *ℤ u x (pos 0) (pos 0))) (sq_nonneg (w (pos 0) (pos 0)))
          (mul_pos d (u x (pos 0) (pos 0) *ℤ u x (pos 0) (pos 0)) d_above (square_above (u x (pos 0) (pos 0)) (λ g. not_zero_product aa x p.first k (sym (u_at x) ∙ g))))))))
      by (inl e) (inl f) (inl g) = absurd (h (triple_same g f e))

-- a triple other than 0 has a positive squared length
pub norm_above : (g : Matrix) → transposed g ≡ g → IsPositive g → (v : Triple) → (v ≡ origin → ⊥) → pos 0 <ℤ squared_length g v
norm_above g e p v h = subst (λ (m : Matrix). pos 0 <ℤ squared_length m v) (by_six g e)
    (norm_six g.a11 g.a22 g.a33 g.a23 g.a13 g.a12 (subst IsPositive (sym (by_six g e)) p) v.x v.y v.z h)

-- two vectors whose squared lengths tell the leading minors
first_norm : (g : Matrix) → squared_length g (triple (pos 1) (pos 0) (pos 0)) ≡ g.a11
first_norm g = by_integers (g.a11 ∷ g.a12 ∷ g.a13 ∷ g.a21 ∷ g.a22 ∷ g.a23 ∷ g.a31 ∷ g.a32 ∷ g.a33 ∷ [])
    ((con (pos 1) :* ((var 0 :* con (pos 1) :+ var 1 :* con (pos 0)) :+ var 2 :* con (pos 0)) :+ con (pos 0) :* ((var 3 :* con (pos 1) :+ var 4 :* con (pos 0)) :+ var 5 :* con (pos 0))) :+ con (pos 0) :* ((var 6 :* con (pos 1) :+ var 7 :* con (pos 0)) :+ var 8 :* con (pos 0))) (var 0) refl

second_norm : (g : Matrix) → squared_length g (triple (neg_ℤ g.a12) g.a11 (pos 0)) ≡ g.a11 *ℤ (g.a11 *ℤ g.a22 +ℤ neg_ℤ (g.a12 *ℤ g.a21))
second_norm g = by_integers (g.a11 ∷ g.a12 ∷ g.a13 ∷ g.a21 ∷ g.a22 ∷ g.a23 ∷ g.a31 ∷ g.a32 ∷ g.a33 ∷ [])
    ((opposite (var 1) :* ((var 0 :* opposite (var 1) :+ var 1 :* var 0) :+ var 2 :* con (pos 0)) :+ var 0 :* ((var 3 :* opposite (var 1) :+ var 4 :* var 0) :+ var 5 :* con (pos 0))) :+ con (pos 0) :* ((var 6 :* opposite (var 1) :+ var 7 :* var 0) :+ var 8 :* con (pos 0)))
    (var 0 :* (var 0 :* var 4 :- var 1 :* var 3)) refl

one_not_zero : pos 1 ≡ pos 0 → ⊥
one_not_zero e = omega (arith, ints)

above_not_zero : (a : ℤ) → pos 0 <ℤ a → a ≡ pos 0 → ⊥
above_not_zero a h e = omega (arith, ints)

-- a matrix with positive squared lengths and determinant has positive leading minors
pub positive_by_norms : (g : Matrix) → ((v : Triple) → (v ≡ origin → ⊥) → pos 0 <ℤ squared_length g v) → pos 0 <ℤ determinant g → IsPositive g
positive_by_norms g f h =
    let first : pos 0 <ℤ g.a11 = subst (λ (v : ℤ). pos 0 <ℤ v) (first_norm g) (f (triple (pos 1) (pos 0) (pos 0)) (λ e. one_not_zero (ap (λ (t : Triple). t.x) e))) in
    record {
      first = first;
      second = pos_of_mul g.a11 (g.a11 *ℤ g.a22 +ℤ neg_ℤ (g.a12 *ℤ g.a21)) first (subst (λ (v : ℤ). pos 0 <ℤ v) (second_norm g) (f (triple (neg_ℤ g.a12) g.a11 (pos 0)) (λ e. above_not_zero g.a11 first (ap (λ (t : Triple). t.y) e))));
      third = h;
    }

applied_origin : (r : Matrix) → image r origin ≡ origin
applied_origin r = ap (image r) (sym (multiple-zero origin)) ∙ image-multiple r (pos 0) origin ∙ multiple-zero (image r origin)

-- a positive metric tensor is positive in a basis of positive determinant
pub positive_metric_in : (r g : Matrix) → transposed g ≡ g → IsPositive g → pos 0 <ℤ determinant r → IsPositive (metric_in r g)
positive_metric_in r g e p h = positive_by_norms (metric_in r g)
    (λ v k. subst (λ (z : ℤ). pos 0 <ℤ z) (sym (squared_length-metric_in r g v)) (norm_above g e p (image r v) (λ f. k (image_cancel r v origin h (f ∙ sym (applied_origin r))))))
    (subst (λ (z : ℤ). pos 0 <ℤ z) (sym (determinant-metric_in r g)) (mul_pos (determinant r *ℤ determinant r) (determinant g) (square_positive (determinant r) h) p.third))

-- a symmetric metric tensor is symmetric in each basis
pub symmetric_metric_in : (r g : Matrix) → transposed g ≡ g → transposed (metric_in r g) ≡ metric_in r g
symmetric_metric_in r g e = sym (metric_in-transposed r g) ∙ ap (metric_in r) e

-- so is the metric tensor of the cell in another basis
pub positive_adjugate : (r g : Matrix) → transposed g ≡ g → IsPositive g → pos 0 <ℤ determinant r → IsPositive (metric_in (adjugate r) g)
positive_adjugate r g e p h = positive_metric_in (adjugate r) g e p (subst (λ (z : ℤ). pos 0 <ℤ z) (sym (determinant-adjugate r)) (square_positive (determinant r) h))
