-- Bounds on the entries of isometries and of other matrices by the metric tensor, and metric tensors of two scales.
--
-- Column j of an isometry has the squared length G_jj. So its coordinate i is in the box G_ii w_ij² ≤ 2 G_jj (`Cauchy`), in
-- a reduced basis; and in any basis det(G) w_ij² ≤ adj(G)_ii G_jj. A multiple of a metric tensor by a positive number meets the
-- main conditions where that does, so a matrix between two reduced bases of one lattice in different scales has entries -1, 0
-- and 1 too.
use Rattle.std.proofs.Common.{◌≡◌, inl, inr, [], ◌∷◌, ◌++◌, ℤ, pos, negsuc, ◌+ℤ◌, ◌*ℤ◌, neg_ℤ, ◌≤ℤ◌, ◌<ℤ◌, refl, sym, ◌∙◌, ap, subst}
use Rattle.std.proofs.lemmas.Int.{unsigned_abs-mul}
use Rattle.ring.specs.Ring.{Ops, int_ops, var, con, quoted, ◌:*◌, ◌:+◌, ◌:-◌}
use Rattle.ring.specs.Size.{AtMost}
use Rattle.ring.proofs.Solving.{by_ring}
use Rattle.ring.proofs.IntRing.{int_laws}
use Rattle.ring.proofs.IntOrder.{mul_nonneg, mul_pos, weaken_lt, le_by_sub, sub_nonneg}
use Rattle.matrix3.specs.Matrices.{determinant, adjugate, EachEntry}
use Rattle.crystal_spec.specs.Matrices.{Matrix}
use Rattle.crystal_spec.specs.Crystals.{KeepsMetric}
use Rattle.crystal_spec.proofs.Identities.{by_matrices}
use Rattle.lattice_spec.specs.Tensor.{Tensor, tensor_matrix, squared_length}
use Rattle.lattice_spec.specs.Niggli.{size, twice, MainConditions}
use Rattle.lattice_spec.proofs.Order.{nonneg_is}
use Rattle.lattice_spec.proofs.Limits.{IsReduced}
use Rattle.lattice_spec.proofs.Height.{height_over_nonneg}
use Rattle.lattice_spec.proofs.Cauchy.{IsPositiveTensor, reduced_positive, box_x, box_y, box_z, cauchy_x, cauchy_y, cauchy_z}
use Rattle.lattice_spec.proofs.Isometry.{carried, tensor_after, both, matrix, length_1, length_2, length_3}
use Rattle.lattice_spec.proofs.Minima.{scaled_matrix, basis_change_small}

-- ---- boxes

-- g x² is at most 2 n
abbrev pub IsInBox : ℤ → ℤ → ℤ → Type 0
IsInBox g n x = pos 0 ≤ℤ (pos 2 *ℤ n +ℤ neg_ℤ (g *ℤ (x *ℤ x)))

-- the coordinates of a vector of squared length n are in the boxes of A, B and C
pub record IsColumnInBox (s : Tensor ℤ) (n x y z : ℤ) : Type 0 where
  pub first : IsInBox s.aa n x
  pub second : IsInBox s.bb n y
  pub third : IsInBox s.cc n z

-- so they are, in a reduced basis
pub box_of_column : (s : Tensor ℤ) (n x y z : ℤ) → IsReduced s → squared_length int_ops s x y z ≡ n → IsColumnInBox s n x y z
box_of_column s n x y z m e =
    let p : IsPositiveTensor s = reduced_positive s m in
    record {
      first = subst (λ (q : ℤ). IsInBox s.aa q x) e (box_x s x y z p (height_over_nonneg s m));
      second = subst (λ (q : ℤ). IsInBox s.bb q y) e (box_y s x y z p (height_over_nonneg s m));
      third = subst (λ (q : ℤ). IsInBox s.cc q z) e (box_z s x y z p (height_over_nonneg s m));
    }

-- w_ij² G_ii is at most 2 G_jj for each entry
pub record IsInBoxes (s : Tensor ℤ) (w : Matrix) : Type 0 where
  pub column_1 : IsColumnInBox s s.aa w.a11 w.a21 w.a31
  pub column_2 : IsColumnInBox s s.bb w.a12 w.a22 w.a32
  pub column_3 : IsColumnInBox s s.cc w.a13 w.a23 w.a33

-- an isometry of a reduced metric tensor is in these boxes
pub isometry_in_boxes : (s : Tensor ℤ) (w : Matrix) → IsReduced s → KeepsMetric (tensor_matrix s) w → IsInBoxes s w
isometry_in_boxes s w m k = record {
  column_1 = box_of_column s s.aa w.a11 w.a21 w.a31 m (length_1 s s w k);
  column_2 = box_of_column s s.bb w.a12 w.a22 w.a32 m (length_2 s s w k);
  column_3 = box_of_column s s.cc w.a13 w.a23 w.a33 m (length_3 s s w k);
}

-- ---- by the adjugate

-- h x² is at most d n
abbrev pub IsByAdjugate : ℤ → ℤ → ℤ → ℤ → Type 0
IsByAdjugate h d n x = pos 0 ≤ℤ (d *ℤ n +ℤ neg_ℤ (h *ℤ (x *ℤ x)))

-- det(G) times the square of a coordinate i is at most adj(G)_ii n
pub record IsColumnByAdjugate (s : Tensor ℤ) (n x y z : ℤ) : Type 0 where
  pub first : IsByAdjugate (determinant int_ops (tensor_matrix s)) (adjugate int_ops (tensor_matrix s)).a11 n x
  pub second : IsByAdjugate (determinant int_ops (tensor_matrix s)) (adjugate int_ops (tensor_matrix s)).a22 n y
  pub third : IsByAdjugate (determinant int_ops (tensor_matrix s)) (adjugate int_ops (tensor_matrix s)).a33 n z

-- so are the coordinates of a vector of squared length n, in any basis
pub adjugate_of_column : (s : Tensor ℤ) (n x y z : ℤ) → IsPositiveTensor s → squared_length int_ops s x y z ≡ n → IsColumnByAdjugate s n x y z
adjugate_of_column s n x y z p e =
    let h = determinant int_ops (tensor_matrix s) in
    let d = adjugate int_ops (tensor_matrix s) in
    record {
      first = subst (λ (q : ℤ). IsByAdjugate h d.a11 q x) e (cauchy_x s x y z p);
      second = subst (λ (q : ℤ). IsByAdjugate h d.a22 q y) e (cauchy_y s x y z p);
      third = subst (λ (q : ℤ). IsByAdjugate h d.a33 q z) e (cauchy_z s x y z p);
    }

-- ---- scales

-- each entry times k
abbrev pub scaled : ℤ → Tensor ℤ → Tensor ℤ
scaled k s = record { aa = k *ℤ s.aa; bb = k *ℤ s.bb; cc = k *ℤ s.cc; bc = k *ℤ s.bc; ac = k *ℤ s.ac; ab = k *ℤ s.ab }

module _ {R : Type 0} (o : Ops R) where
  open o use {◌⊗◌}

  abbrev scaled_tensor : R → Tensor R → Tensor R
  scaled_tensor k s = record { aa = k ⊗ s.aa; bb = k ⊗ s.bb; cc = k ⊗ s.cc; bc = k ⊗ s.bc; ac = k ⊗ s.ac; ab = k ⊗ s.ab }

times_le : (k x y : ℤ) → pos 0 <ℤ k → x ≤ℤ y → (k *ℤ x) ≤ℤ (k *ℤ y)
times_le k x y hk h =
    le_by_sub _ _ (nonneg_is _ _ (by_ring int_ops int_laws (k ∷ x ∷ y ∷ []) (var 0 :* var 2 :- var 0 :* var 1) (var 0 :* (var 2 :- var 1)) refl) (mul_nonneg _ _ (weaken_lt _ _ hk) (sub_nonneg _ _ h)))

times_zero : (k : ℤ) → k *ℤ pos 0 ≡ pos 0
times_zero k = by_ring int_ops int_laws (k ∷ []) (var 0 :* con (pos 0)) (con (pos 0)) refl

times_nonpos : (k x : ℤ) → pos 0 <ℤ k → x ≤ℤ pos 0 → (k *ℤ x) ≤ℤ pos 0
times_nonpos k x hk h = subst (λ (n : ℤ). (k *ℤ x) ≤ℤ n) (times_zero k) (times_le k x (pos 0) hk h)

times_twice : (k x : ℤ) → k *ℤ twice x ≡ twice (k *ℤ x)
times_twice k x =
    by_ring int_ops int_laws (k ∷ x ∷ []) (var 0 :* (con (pos 2) :* var 1)) (con (pos 2) :* (var 0 :* var 1)) refl

-- the size of a multiple
size-times : (k x : ℤ) → pos 0 <ℤ k → size (k *ℤ x) ≡ k *ℤ size x
size-times (pos n) x hk = ap pos (unsigned_abs-mul (pos n) x)
size-times (negsuc n) x hk = absurd hk.lt

size_times_le : (k x y : ℤ) → pos 0 <ℤ k → size x ≤ℤ y → size (k *ℤ x) ≤ℤ (k *ℤ y)
size_times_le k x y hk h = subst (λ (n : ℤ). n ≤ℤ (k *ℤ y)) (sym (size-times k x hk)) (times_le k (size x) y hk h)

main_conditions_scaled : (k a b c x y z : ℤ) → pos 0 <ℤ k → MainConditions a b c x y z → MainConditions (k *ℤ a) (k *ℤ b) (k *ℤ c) (k *ℤ x) (k *ℤ y) (k *ℤ z)
main_conditions_scaled k a b c x y z hk m = record {
  a_positive = mul_pos _ _ hk m.a_positive;
  a_to_b = times_le _ _ _ hk m.a_to_b;
  b_to_c = times_le _ _ _ hk m.b_to_c;
  x_to_b = size_times_le _ _ _ hk m.x_to_b;
  y_to_a = size_times_le _ _ _ hk m.y_to_a;
  z_to_a = size_times_le _ _ _ hk m.z_to_a;
  form = elim m.form [
    | inl p ↦ inl (record { x_positive = mul_pos _ _ hk p.x_positive; y_positive = mul_pos _ _ hk p.y_positive; z_positive = mul_pos _ _ hk p.z_positive })
    | inr p ↦ inr (record { x_at_most_0 = times_nonpos _ _ hk p.0.x_at_most_0; y_at_most_0 = times_nonpos _ _ hk p.0.y_at_most_0; z_at_most_0 = times_nonpos _ _ hk p.0.z_at_most_0 }, sum_scaled p.1)
  ];
}
  where
    sum_of_sizes : (size (k *ℤ x) +ℤ size (k *ℤ y) +ℤ size (k *ℤ z)) ≡ k *ℤ (size x +ℤ size y +ℤ size z)
    sum_of_sizes =
        ap (λ (n : ℤ). n +ℤ size (k *ℤ y) +ℤ size (k *ℤ z)) (size-times k x hk)
        ∙ (ap (λ (n : ℤ). k *ℤ size x +ℤ n +ℤ size (k *ℤ z)) (size-times k y hk)
        ∙ (ap (λ (n : ℤ). k *ℤ size x +ℤ k *ℤ size y +ℤ n) (size-times k z hk)
        ∙ by_ring int_ops int_laws (k ∷ size x ∷ size y ∷ size z ∷ []) (var 0 :* var 1 :+ var 0 :* var 2 :+ var 0 :* var 3) (var 0 :* (var 1 :+ var 2 :+ var 3)) refl))

    sum_scaled : (size x +ℤ size y +ℤ size z) ≤ℤ (a +ℤ b) → (size (k *ℤ x) +ℤ size (k *ℤ y) +ℤ size (k *ℤ z)) ≤ℤ (k *ℤ a +ℤ k *ℤ b)
    sum_scaled h =
        subst (λ (n : ℤ). n ≤ℤ (k *ℤ a +ℤ k *ℤ b)) (sym sum_of_sizes) (subst (λ (n : ℤ). (k *ℤ (size x +ℤ size y +ℤ size z)) ≤ℤ n) (by_ring int_ops int_laws (k ∷ a ∷ b ∷ []) (var 0 :* (var 1 :+ var 2)) (var 0 :* var 1 :+ var 0 :* var 2) refl) (times_le _ _ _ hk h))

-- a positive multiple of a reduced metric tensor is reduced
pub scaled_reduced : (k : ℤ) (s : Tensor ℤ) → pos 0 <ℤ k → IsReduced s → IsReduced (scaled k s)
scaled_reduced k s hk m =
    subst (λ (z : ℤ). MainConditions (k *ℤ s.aa) (k *ℤ s.bb) (k *ℤ s.cc) (twice (k *ℤ s.bc)) (twice (k *ℤ s.ac)) z) (times_twice k s.ab) (subst (λ (y : ℤ). MainConditions (k *ℤ s.aa) (k *ℤ s.bb) (k *ℤ s.cc) (twice (k *ℤ s.bc)) y (k *ℤ twice s.ab)) (times_twice k s.ac) (subst (λ (x : ℤ). MainConditions (k *ℤ s.aa) (k *ℤ s.bb) (k *ℤ s.cc) x (k *ℤ twice s.ac) (k *ℤ twice s.ab)) (times_twice k s.bc) (main_conditions_scaled k s.aa s.bb s.cc (twice s.bc) (twice s.ac) (twice s.ab) hk m)))

-- a matrix of k wᵀ s w = l t, with k and l positive, between two reduced metric tensors has entries -1, 0 and 1
pub scaled_basis_change_small : (k l : ℤ) (s t : Tensor ℤ) (w : Matrix) → pos 0 <ℤ k → pos 0 <ℤ l → IsReduced s → IsReduced t → scaled_matrix int_ops k (carried int_ops s w) ≡ scaled_matrix int_ops l (tensor_matrix t) → determinant int_ops w *ℤ determinant int_ops w ≡ pos 1 → EachEntry (AtMost 1) w
scaled_basis_change_small k l s t w hk hl m mt e one =
    basis_change_small (scaled k s) (scaled l t) w (scaled_reduced k s hk m) (scaled_reduced l t hl mt) (inner ∙ e) one
  where
    inner : carried int_ops (scaled k s) w ≡ scaled_matrix int_ops k (carried int_ops s w)
    inner =
        by_matrices (both s w ++ (k ∷ [])) (carried quoted (scaled_tensor quoted (var 15) tensor_after) matrix) (scaled_matrix quoted (var 15) (carried quoted tensor_after matrix)) refl
