-- Factors that cancel: a positive number, a column that is added, a factor of square 1, a matrix of positive determinant
-- (its adjugate takes images back, but for the determinant), and that matrix before a metric tensor.
use Rattle.std.proofs.Common.{◌≡◌, suc, zero, ℤ, pos, negsuc, ◌+ℤ◌, ◌*ℤ◌, neg_ℤ, ◌≤ℤ◌, ◌<ℤ◌, [], ◌∷◌, refl, sym, ap, subst, ◌∙◌, arith}
use Rattle.std.proofs.lemmas.Int.{ints}
use Rattle.ring.specs.Ring.{var, ◌:-◌, ◌:*◌}
use Rattle.ring.proofs.IntOrder.{nonneg_of_mul, le_by_sub, ≤ℤ_antisymm}
use Rattle.crystal_spec.specs.Matrices.{Triple, Matrix, image, determinant, adjugate, multiple, sum_of}
use Rattle.basis_spec.specs.Metrics.{matrix_multiple, metric_in}
use Rattle.crystal_spec.proofs.Entrywise.{triple_same, matrix_same}
use Rattle.basis_spec.proofs.MatrixLaws.{multiple-multiple, add_subtract, metric_in_adjugate-metric_in}
use Rattle.crystal_spec.proofs.Identities.{by_integers}
use Rattle.crystal_spec.proofs.Isometries.{multiple-one, image-adjugate}

no_difference : (x y : ℤ) → x ≡ y → pos 0 ≤ℤ (x +ℤ neg_ℤ y)
no_difference x y e = omega (arith, ints)

times_difference : (k x y : ℤ) → k *ℤ (x +ℤ neg_ℤ y) ≡ k *ℤ x +ℤ neg_ℤ (k *ℤ y)
times_difference k x y = by_integers (k ∷ x ∷ y ∷ []) (var 0 :* (var 1 :- var 2)) (var 0 :* var 1 :- var 0 :* var 2) refl

not_above : (k x y : ℤ) → pos 0 <ℤ k → k *ℤ x ≡ k *ℤ y → y ≤ℤ x
not_above k x y p e = le_by_sub y x (nonneg_of_mul k (x +ℤ neg_ℤ y) p (subst (λ (z : ℤ). pos 0 ≤ℤ z) (sym (times_difference k x y)) (no_difference (k *ℤ x) (k *ℤ y) e)))

-- a positive factor cancels
pub mul_cancel : (k x y : ℤ) → pos 0 <ℤ k → k *ℤ x ≡ k *ℤ y → x ≡ y
mul_cancel k x y p e = ≤ℤ_antisymm x y (not_above k y x p (sym e)) (not_above k x y p e)

-- a positive factor of two columns cancels
pub multiple_cancel : (k : ℤ) (u v : Triple) → pos 0 <ℤ k → multiple k u ≡ multiple k v → u ≡ v
multiple_cancel k u v p e = triple_same (mul_cancel k u.x v.x p (ap (λ (t : Triple). t.x) e)) (mul_cancel k u.y v.y p (ap (λ (t : Triple). t.y) e)) (mul_cancel k u.z v.z p (ap (λ (t : Triple). t.z) e))

-- a positive factor of two matrices cancels
pub matrix_multiple_cancel : (k : ℤ) (a b : Matrix) → pos 0 <ℤ k → matrix_multiple k a ≡ matrix_multiple k b → a ≡ b
matrix_multiple_cancel k a b p e = matrix_same
    (mul_cancel k a.a11 b.a11 p (ap (λ (m : Matrix). m.a11) e)) (mul_cancel k a.a12 b.a12 p (ap (λ (m : Matrix). m.a12) e)) (mul_cancel k a.a13 b.a13 p (ap (λ (m : Matrix). m.a13) e))
    (mul_cancel k a.a21 b.a21 p (ap (λ (m : Matrix). m.a21) e)) (mul_cancel k a.a22 b.a22 p (ap (λ (m : Matrix). m.a22) e)) (mul_cancel k a.a23 b.a23 p (ap (λ (m : Matrix). m.a23) e))
    (mul_cancel k a.a31 b.a31 p (ap (λ (m : Matrix). m.a31) e)) (mul_cancel k a.a32 b.a32 p (ap (λ (m : Matrix). m.a32) e)) (mul_cancel k a.a33 b.a33 p (ap (λ (m : Matrix). m.a33) e))

-- a column that is added cancels
pub sum_cancel : (u v w : Triple) → sum_of u w ≡ sum_of v w → u ≡ v
sum_cancel u v w e = sym (add_subtract u w) ∙ ap (λ t. sum_of t (multiple (negsuc 0) w)) e ∙ add_subtract v w

-- a factor of square 1, twice
pub unit_twice : (a : ℤ) (v : Triple) → a *ℤ a ≡ pos 1 → multiple a (multiple a v) ≡ v
unit_twice a v one = multiple-multiple a a v ∙ ap (λ b. multiple b v) one ∙ multiple-one v

-- a factor of square 1 cancels
pub unit_cancel : (a : ℤ) (u v : Triple) → a *ℤ a ≡ pos 1 → multiple a u ≡ multiple a v → u ≡ v
unit_cancel a u v one e = sym (unit_twice a u one) ∙ ap (multiple a) e ∙ unit_twice a v one

-- a matrix of positive determinant takes two triples to two
pub image_cancel : (r : Matrix) (u v : Triple) → pos 0 <ℤ determinant r → image r u ≡ image r v → u ≡ v
image_cancel r u v p e = multiple_cancel (determinant r) u v p (sym (image-adjugate r u) ∙ ap (image (adjugate r)) e ∙ image-adjugate r v)

-- the square of a positive number is positive
pub square_positive : (a : ℤ) → pos 0 <ℤ a → pos 0 <ℤ (a *ℤ a)
square_positive (pos zero) p = absurd (omega (arith, ints))
square_positive (pos (suc n)) p = omega (arith, ints)
square_positive (negsuc n) p = absurd p.lt

-- a metric tensor is told by what it is in another basis
pub metric_in_cancel : (r x y : Matrix) → pos 0 <ℤ determinant r → metric_in r x ≡ metric_in r y → x ≡ y
metric_in_cancel r x y p e = matrix_multiple_cancel (determinant r *ℤ determinant r) x y (square_positive (determinant r) p) (sym (metric_in_adjugate-metric_in r x) ∙ ap (metric_in (adjugate r)) e ∙ metric_in_adjugate-metric_in r y)
