-- A, B and C are the successive minima of the lattice.
--
-- A vector that is not 0 has a squared length of at least A; one off the line of a at least B; one off the plane of a and b
-- at least C (`Norms`). Let the columns of w be three vectors with det(w) ≠ 0 and a reduced metric tensor. Some column is off
-- the plane of a and b, one of any two is off the line of a, and each is not 0, as det(w) by a row or a column shows. So their
-- A, B and C are at least those of the basis. Where det(w)² = 1 the adjugate of w leads back, so they are equal: A, B and C
-- belong to the lattice, whatever its reduced basis. And a matrix of det(w)² = 1 between two reduced bases has entries -1, 0
-- and 1, since its columns have the squared lengths A, B and C (`Isometry`).
use Rattle.std.proofs.Common.{◌≡◌, ◌⊎◌, inl, inr, ℤ, pos, ◌+ℤ◌, ◌*ℤ◌, ◌≤ℤ◌, refl, sym, ◌∙◌, ap, subst, arith}
use Rattle.std.proofs.lemmas.Int.{ints}
use Rattle.ring.specs.Ring.{Ops, int_ops, quoted, ◌:*◌}
use Rattle.ring.specs.Size.{AtMost}
use Rattle.ring.proofs.Solving.{by_ring}
use Rattle.ring.proofs.IntRing.{int_laws, one-*ℤ}
use Rattle.ring.proofs.IntOrder.{≤ℤ_trans, ≤ℤ_antisymm}
use Rattle.matrix3.specs.declared.matrix.Mat3.{Mat3}
use Rattle.matrix3.specs.Matrices.{entries, determinant, adjugate, transposed, matrix_map, EachEntry}
use Rattle.matrix3.specs.Matrices as formulas
use Rattle.crystal_spec.specs.Matrices.{Matrix}
use Rattle.crystal_spec.proofs.Entrywise.{matrix_same}
use Rattle.crystal_spec.proofs.Identities.{by_matrices}
use Rattle.lattice_spec.specs.Tensor.{Tensor, tensor_matrix, squared_length}
use Rattle.lattice_spec.proofs.Order.{NonZero, zero_or, zero_not, zero_times, zero_not_unit}
use Rattle.lattice_spec.proofs.Limits.{IsReduced}
use Rattle.lattice_spec.proofs.Norms.{least_a, least_b, least_c}
use Rattle.lattice_spec.proofs.Isometry.{Carries, carried, tensor_after, both, matrix, along_row_3, length_1, length_2, length_3, columns_small}

-- ---- which factors of a determinant are not 0

-- a sum of three products that is not 0 has a first factor that is not 0
one_of_three : (g h i t u v d : ℤ) → d ≡ g *ℤ t +ℤ h *ℤ u +ℤ i *ℤ v → NonZero d → NonZero g ⊎ (NonZero h ⊎ NonZero i)
one_of_three g h i t u v d q n =
    elim (zero_or g) [
      | inr p ↦ inl p
      | inl hg ↦ elim (zero_or h) [
        | inr p ↦ inr (inl p)
        | inl hh ↦ elim (zero_or i) [
          | inr p ↦ inr (inr p)
          | inl hi ↦ absurd (zero_not d (omega (arith, ints, q, zero_times g t hg, zero_times h u hh, zero_times i v hi)) n)
        ]
      ]
    ]

-- likewise of four, of which the first and third, and the second and fourth, belong to one column
one_of_four : (d e g h t u v w k : ℤ) → k ≡ d *ℤ t +ℤ e *ℤ u +ℤ g *ℤ v +ℤ h *ℤ w → NonZero k → (NonZero d ⊎ NonZero g) ⊎ (NonZero e ⊎ NonZero h)
one_of_four d e g h t u v w k q n =
    elim (zero_or d) [
      | inr p ↦ inl (inl p)
      | inl hd ↦ elim (one_of_three e g h u v w k (omega (arith, ints, q, zero_times d t hd)) n) [
        | inl p ↦ inr (inl p)
        | inr r ↦ elim r [ inl p ↦ inl (inr p) | inr p ↦ inr (inr p) ]
      ]
    ]

-- a number whose square is 1 is not 0
pub unit_nonzero : (d : ℤ) → d *ℤ d ≡ pos 1 → NonZero d
unit_nonzero d one = elim (zero_or d) [ inr p ↦ p | inl e ↦ absurd (zero_not_unit d e one) ]

-- ---- the least squared lengths

-- B is the least squared length off the line of a
pub least_off_line : (s : Tensor ℤ) (x y z : ℤ) → IsReduced s → NonZero y ⊎ NonZero z → s.bb ≤ℤ squared_length int_ops s x y z
least_off_line s x y z m h =
    elim (zero_or z) [
      | inr p ↦ ≤ℤ_trans _ _ _ m.b_to_c (least_c s x y z m p)
      | inl e ↦ elim h [
        | inl p ↦ subst (λ (w : ℤ). s.bb ≤ℤ squared_length int_ops s x y w) (sym e) (least_b s x y m p)
        | inr p ↦ absurd (zero_not z e p)
      ]
    ]

-- A is the least squared length but 0
pub least_of_all : (s : Tensor ℤ) (x y z : ℤ) → IsReduced s → NonZero x ⊎ (NonZero y ⊎ NonZero z) → s.aa ≤ℤ squared_length int_ops s x y z
least_of_all s x y z m h =
    elim h [
      | inr p ↦ off p
      | inl p ↦ elim (zero_or y) [
        | inr q ↦ off (inl q)
        | inl ey ↦ elim (zero_or z) [
          | inr q ↦ off (inr q)
          | inl ez ↦ subst (λ (w : ℤ). s.aa ≤ℤ squared_length int_ops s x w z) (sym ey) (subst (λ (w : ℤ). s.aa ≤ℤ squared_length int_ops s x (pos 0) w) (sym ez) (least_a s x m p))
        ]
      ]
    ]
  where
    off : NonZero y ⊎ NonZero z → s.aa ≤ℤ squared_length int_ops s x y z
    off p = ≤ℤ_trans _ _ _ m.a_to_b (least_off_line s x y z m p)

-- ---- three independent vectors

module _ {R : Type 0} (o : Ops R) where
  open o use {◌⊕◌, ◌⊗◌, opp}

  -- the determinant along the first column, and by the first two columns
  abbrev along_column_1 : Mat3 R → R
  along_column_1 w =
      w.a11 ⊗ (w.a22 ⊗ w.a33 ⊕ opp (w.a23 ⊗ w.a32)) ⊕ w.a21 ⊗ (w.a13 ⊗ w.a32 ⊕ opp (w.a12 ⊗ w.a33)) ⊕ w.a31 ⊗ (w.a12 ⊗ w.a23 ⊕ opp (w.a13 ⊗ w.a22))

  abbrev along_two_columns : Mat3 R → R
  along_two_columns w =
      w.a21 ⊗ (w.a13 ⊗ w.a32 ⊕ opp (w.a12 ⊗ w.a33)) ⊕ w.a22 ⊗ (w.a11 ⊗ w.a33 ⊕ opp (w.a13 ⊗ w.a31)) ⊕ w.a31 ⊗ (w.a12 ⊗ w.a23) ⊕ w.a32 ⊗ opp (w.a11 ⊗ w.a23)

  -- each entry times k
  abbrev pub scaled_matrix : R → Mat3 R → Mat3 R
  scaled_matrix k m = matrix_map (λ x. k ⊗ x) m

  -- the adjugate leads back: adj(w)ᵀ (wᵀ s w) adj(w) is det(w)² s
  abbrev carried_matrix : Mat3 R → Mat3 R → Mat3 R
  carried_matrix m w = formulas.product o (transposed w) (formulas.product o m w)

  abbrev back : Tensor R → Mat3 R → Mat3 R
  back s w = carried_matrix (carried o s w) (adjugate o w)

  abbrev back_is : Tensor R → Mat3 R → Mat3 R
  back_is s w = scaled_matrix (determinant o w ⊗ determinant o w) (tensor_matrix s)

-- A, B and C of s are at most those of t
pub record HasLeastLengths (s t : Tensor ℤ) : Type 0 where
  pub first : s.aa ≤ℤ t.aa
  pub second : s.bb ≤ℤ t.bb
  pub third : s.cc ≤ℤ t.cc

-- the squared lengths of three independent vectors in order are no less than A, B and C
pub minima : (s t : Tensor ℤ) (w : Matrix) → IsReduced s → t.aa ≤ℤ t.bb → t.bb ≤ℤ t.cc → Carries s w t → NonZero (determinant int_ops w) → HasLeastLengths s t
minima s t w m a_to_b b_to_c k n =
    let n1 : squared_length int_ops s w.a11 w.a21 w.a31 ≡ t.aa = length_1 s t w k in
    let n2 : squared_length int_ops s w.a12 w.a22 w.a32 ≡ t.bb = length_2 s t w k in
    let n3 : squared_length int_ops s w.a13 w.a23 w.a33 ≡ t.cc = length_3 s t w k in
    record {
      first = subst (λ (r : ℤ). s.aa ≤ℤ r) n1 (least_of_all s w.a11 w.a21 w.a31 m (one_of_three w.a11 w.a21 w.a31 _ _ _ (determinant int_ops w) (by_ring int_ops int_laws (entries w) (determinant quoted matrix) (along_column_1 quoted matrix) refl) n));
      second = elim (one_of_four w.a21 w.a22 w.a31 w.a32 _ _ _ _ (determinant int_ops w) (by_ring int_ops int_laws (entries w) (determinant quoted matrix) (along_two_columns quoted matrix) refl) n) [
        | inl p ↦ ≤ℤ_trans _ _ _ (subst (λ (r : ℤ). s.bb ≤ℤ r) n1 (least_off_line s w.a11 w.a21 w.a31 m p)) a_to_b
        | inr p ↦ subst (λ (r : ℤ). s.bb ≤ℤ r) n2 (least_off_line s w.a12 w.a22 w.a32 m p)
      ];
      third = elim (one_of_three w.a31 w.a32 w.a33 _ _ _ (determinant int_ops w) (by_ring int_ops int_laws (entries w) (determinant quoted matrix) (along_row_3 quoted matrix) refl) n) [
        | inl p ↦ ≤ℤ_trans _ _ _ (≤ℤ_trans _ _ _ (subst (λ (r : ℤ). s.cc ≤ℤ r) n1 (least_c s w.a11 w.a21 w.a31 m p)) a_to_b) b_to_c
        | inr r ↦ elim r [
          | inl p ↦ ≤ℤ_trans _ _ _ (subst (λ (r : ℤ). s.cc ≤ℤ r) n2 (least_c s w.a12 w.a22 w.a32 m p)) b_to_c
          | inr p ↦ subst (λ (r : ℤ). s.cc ≤ℤ r) n3 (least_c s w.a13 w.a23 w.a33 m p)
        ]
      ];
    }

-- ---- two reduced bases of one lattice

-- the way back
pub carries_back : (s t : Tensor ℤ) (w : Matrix) → Carries s w t → determinant int_ops w *ℤ determinant int_ops w ≡ pos 1 → Carries t (adjugate int_ops w) s
carries_back s t w k one =
    ap (λ (m : Matrix). carried_matrix int_ops m (adjugate int_ops w)) (sym k) ∙ (by_matrices (both s w) (back quoted tensor_after matrix) (back_is quoted tensor_after matrix) refl ∙ (ap (λ (d : ℤ). scaled_matrix int_ops d (tensor_matrix s)) one ∙ unscaled (tensor_matrix s)))
  where
    unscaled : (m : Matrix) → scaled_matrix int_ops (pos 1) m ≡ m
    unscaled m =
        matrix_same (one-*ℤ m.a11) (one-*ℤ m.a12) (one-*ℤ m.a13) (one-*ℤ m.a21) (one-*ℤ m.a22) (one-*ℤ m.a23) (one-*ℤ m.a31) (one-*ℤ m.a32) (one-*ℤ m.a33)

-- its determinant is det(w)²
pub determinant-adjugate : (w : Matrix) → determinant int_ops (adjugate int_ops w) ≡ determinant int_ops w *ℤ determinant int_ops w
determinant-adjugate w =
    by_ring int_ops int_laws (entries w) (determinant quoted (adjugate quoted matrix)) (determinant quoted matrix :* determinant quoted matrix) refl

-- A, B and C of s are those of t
pub record HasSameLengths (s t : Tensor ℤ) : Type 0 where
  pub first : s.aa ≡ t.aa
  pub second : s.bb ≡ t.bb
  pub third : s.cc ≡ t.cc

-- two reduced bases of one lattice have the same A, B and C
pub same_lengths : (s t : Tensor ℤ) (w : Matrix) → IsReduced s → IsReduced t → Carries s w t → determinant int_ops w *ℤ determinant int_ops w ≡ pos 1 → HasSameLengths s t
same_lengths s t w m mt k one =
    let f : HasLeastLengths s t = minima s t w m mt.a_to_b mt.b_to_c k (unit_nonzero _ one) in
    let v : determinant int_ops (adjugate int_ops w) ≡ pos 1 = determinant-adjugate w ∙ one in
    let b : HasLeastLengths t s =
    minima t s (adjugate int_ops w) mt m.a_to_b m.b_to_c (carries_back s t w k one) (unit_nonzero _ (ap (λ (d : ℤ). d *ℤ d) v)) in
    record { first = ≤ℤ_antisymm _ _ f.first b.first; second = ≤ℤ_antisymm _ _ f.second b.second; third = ≤ℤ_antisymm _ _ f.third b.third }

-- a matrix between two reduced bases of one lattice has entries -1, 0 and 1
pub basis_change_small : (s t : Tensor ℤ) (w : Matrix) → IsReduced s → IsReduced t → Carries s w t → determinant int_ops w *ℤ determinant int_ops w ≡ pos 1 → EachEntry (AtMost 1) w
basis_change_small s t w m mt k one =
    let e : HasSameLengths s t = same_lengths s t w m mt k one in
    columns_small s w m (length_1 s t w k ∙ sym e.first) (length_2 s t w k ∙ sym e.second) (length_3 s t w k ∙ sym e.third) one
