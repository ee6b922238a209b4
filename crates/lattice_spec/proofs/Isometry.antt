-- The isometries of a reduced metric tensor have entries -1, 0 and 1.
--
-- From wᵀ G w = G the columns of w have the squared lengths A, B and C, and det(w)² = 1, since det(G) > 0. The first column
-- has squared length A, so its entries are small (`Norms`). So are those of the second, unless it is a multiple of (1, 0, 0);
-- then its first entry divides det(w), and is 1 or -1. The third column has squared length C: if its last entry is 0, one of
-- the other two columns has a last entry that isn't 0, since det(w) ≠ 0. That column has a squared length of at least C, so
-- C ≤ B, and the case before applies.
use Rattle.std.proofs.Common.{◌≡◌, inl, inr, ℕ, zero, suc, ◌*◌, ◌≤◌, List, [], ◌∷◌, ◌++◌, ℤ, pos, negsuc, ◌+ℤ◌, ◌*ℤ◌, ◌≤ℤ◌, refl, sym, ◌∙◌, ap, subst, arith}
use Rattle.std.specs.Int.RustNames.{unsigned_abs}
use Rattle.std.proofs.lemmas.Int.{ints, unsigned_abs-mul}
use Rattle.ring.specs.Ring.{Ops, int_ops, Expr, var, quoted, ◌:*◌}
use Rattle.ring.specs.Size.{AtMost}
use Rattle.ring.proofs.Solving.{by_ring}
use Rattle.ring.proofs.IntRing.{int_laws}
use Rattle.ring.proofs.IntOrder.{≤ℤ_trans}
use Rattle.matrix3.specs.declared.matrix.Mat3.{Mat3}
use Rattle.matrix3.specs.Matrices.{entries, determinant, transposed, matrix_of_variables, EachEntry}
use Rattle.matrix3.specs.Matrices as formulas
use Rattle.crystal_spec.specs.Matrices.{Matrix, product}
use Rattle.crystal_spec.specs.Crystals.{KeepsMetric}
use Rattle.crystal_spec.proofs.Isometries.{determinant-isometry}
use Rattle.lattice_spec.specs.Tensor.{Tensor, tensor_matrix, squared_length}
use Rattle.lattice_spec.proofs.Order.{Small, zero_or, zero_times, zero_not_unit, le_is}
use Rattle.lattice_spec.proofs.Limits.{IsReduced}
use Rattle.lattice_spec.proofs.Cauchy.{reduced_positive}
use Rattle.lattice_spec.proofs.Norms.{least_c, SmallColumn, small_within_a, small_within_b, small_within_c}

-- the columns of w have the metric tensor t: wᵀ s w = t
abbrev pub Carries : Tensor ℤ → Matrix → Tensor ℤ → Type 0
Carries s w t = product (transposed w) (product (tensor_matrix s) w) ≡ tensor_matrix t

-- ---- factors of one

factor_of_one : (n k : ℕ) → n * k ≡ 1 → n ≤ 1
factor_of_one n zero e = omega (arith, e)
factor_of_one n (suc k) e = omega (arith, e)

small_abs : (x : ℤ) → unsigned_abs x ≤ 1 → Small x
small_abs (pos n) h = record { low = omega (arith, ints, h); high = omega (arith, ints, h) }
small_abs (negsuc n) h = record { low = omega (arith, ints, h); high = omega (arith, ints, h) }

unit_small : (b t : ℤ) → b *ℤ t ≡ pos 1 → Small b
unit_small b t e =
    small_abs b (factor_of_one (unsigned_abs b) (unsigned_abs t) (sym (unsigned_abs-mul b t) ∙ ap unsigned_abs e))

-- the first entry of a column whose others are 0 divides the determinant d
unit_column : (b e h t u v d : ℤ) → d ≡ b *ℤ t +ℤ e *ℤ u +ℤ h *ℤ v → d *ℤ d ≡ pos 1 → e ≡ pos 0 → h ≡ pos 0 → Small b
unit_column b e h t u v d q one he hh =
    let p : d ≡ b *ℤ t = omega (arith, ints, q, zero_times e u he, zero_times h v hh) in
    unit_small b (t *ℤ d) (regroup ∙ (ap (λ (w : ℤ). w *ℤ d) (sym p) ∙ one))
  where
    regroup : b *ℤ (t *ℤ d) ≡ b *ℤ t *ℤ d
    regroup =
        by_ring int_ops int_laws (b ∷ t ∷ d ∷ []) (var 0 :* (var 1 :* var 2)) (var 0 :* var 1 :* var 2) refl

-- a row of zeros has no determinant 1 or -1
zero_row : (g h i t u v d : ℤ) → d ≡ g *ℤ t +ℤ h *ℤ u +ℤ i *ℤ v → d *ℤ d ≡ pos 1 → g ≡ pos 0 → h ≡ pos 0 → i ≡ pos 0 → ⊥
zero_row g h i t u v d q one hg hh hi =
    zero_not_unit d (omega (arith, ints, q, zero_times g t hg, zero_times h u hh, zero_times i v hi)) one

-- ---- the determinant along a column and along the last row
module _ {R : Type 0} (o : Ops R) where
  open o use {◌⊕◌, ◌⊗◌, opp}

  -- wᵀ s w
  abbrev pub carried : Tensor R → Mat3 R → Mat3 R
  carried s w = formulas.product o (transposed w) (formulas.product o (tensor_matrix s) w)

  -- each is the determinant, as a sum of three products with the entries of that column or row
  abbrev pub along_column_2 : Mat3 R → R
  along_column_2 w =
      w.a12 ⊗ (w.a23 ⊗ w.a31 ⊕ opp (w.a21 ⊗ w.a33)) ⊕ w.a22 ⊗ (w.a11 ⊗ w.a33 ⊕ opp (w.a13 ⊗ w.a31)) ⊕ w.a32 ⊗ (w.a13 ⊗ w.a21 ⊕ opp (w.a11 ⊗ w.a23))

  abbrev pub along_column_3 : Mat3 R → R
  along_column_3 w =
      w.a13 ⊗ (w.a21 ⊗ w.a32 ⊕ opp (w.a22 ⊗ w.a31)) ⊕ w.a23 ⊗ (w.a12 ⊗ w.a31 ⊕ opp (w.a11 ⊗ w.a32)) ⊕ w.a33 ⊗ (w.a11 ⊗ w.a22 ⊕ opp (w.a12 ⊗ w.a21))

  abbrev pub along_row_3 : Mat3 R → R
  along_row_3 w =
      w.a31 ⊗ (w.a12 ⊗ w.a23 ⊕ opp (w.a13 ⊗ w.a22)) ⊕ w.a32 ⊗ (w.a13 ⊗ w.a21 ⊕ opp (w.a11 ⊗ w.a23)) ⊕ w.a33 ⊗ (w.a11 ⊗ w.a22 ⊕ opp (w.a12 ⊗ w.a21))

-- nine variables for the matrix, and six for the metric tensor
abbrev pub matrix : Mat3 Expr
matrix = matrix_of_variables 0

-- its six entries
abbrev pub tensor_after : Tensor Expr
tensor_after = record { aa = var 9; bb = var 10; cc = var 11; bc = var 12; ac = var 13; ab = var 14 }

-- their values
abbrev pub both : Tensor ℤ → Matrix → List ℤ
both s w = entries w ++ (s.aa ∷ s.bb ∷ s.cc ∷ s.bc ∷ s.ac ∷ s.ab ∷ [])

-- ---- the squared lengths of the columns

-- the first column has the squared length A of t
pub length_1 : (s t : Tensor ℤ) (w : Matrix) → Carries s w t → squared_length int_ops s w.a11 w.a21 w.a31 ≡ t.aa
length_1 s t w k =
    by_ring int_ops int_laws (both s w) (squared_length quoted tensor_after matrix.a11 matrix.a21 matrix.a31) (carried quoted tensor_after matrix).a11 refl ∙ ap (λ m. m.a11) k

-- the second column has B
pub length_2 : (s t : Tensor ℤ) (w : Matrix) → Carries s w t → squared_length int_ops s w.a12 w.a22 w.a32 ≡ t.bb
length_2 s t w k =
    by_ring int_ops int_laws (both s w) (squared_length quoted tensor_after matrix.a12 matrix.a22 matrix.a32) (carried quoted tensor_after matrix).a22 refl ∙ ap (λ m. m.a22) k

-- the third column has C
pub length_3 : (s t : Tensor ℤ) (w : Matrix) → Carries s w t → squared_length int_ops s w.a13 w.a23 w.a33 ≡ t.cc
length_3 s t w k =
    by_ring int_ops int_laws (both s w) (squared_length quoted tensor_after matrix.a13 matrix.a23 matrix.a33) (carried quoted tensor_after matrix).a33 refl ∙ ap (λ m. m.a33) k

-- the determinant of an isometry has the square 1
pub square_one : (s : Tensor ℤ) (w : Matrix) → IsReduced s → KeepsMetric (tensor_matrix s) w → determinant int_ops w *ℤ determinant int_ops w ≡ pos 1
square_one s w m k = determinant-isometry (tensor_matrix s) w (reduced_positive s m) k

-- ---- small entries

size_of_small : (x : ℤ) → Small x → AtMost 1 x
size_of_small (pos n) h = record { size = omega (arith, ints, h.high) }
size_of_small (negsuc n) h = record { size = omega (arith, ints, h.low) }

-- columns of the squared lengths A, B and C, and determinant 1 or -1
pub columns_small : (s : Tensor ℤ) (w : Matrix) → IsReduced s → squared_length int_ops s w.a11 w.a21 w.a31 ≡ s.aa → squared_length int_ops s w.a12 w.a22 w.a32 ≡ s.bb → squared_length int_ops s w.a13 w.a23 w.a33 ≡ s.cc → determinant int_ops w *ℤ determinant int_ops w ≡ pos 1 → EachEntry (AtMost 1) w
columns_small s w m n1 n2 n3 one =
    let c1 : SmallColumn w.a11 w.a21 w.a31 = small_within_a s w.a11 w.a21 w.a31 m (le_is _ _ n1) in
    let c2 : SmallColumn w.a12 w.a22 w.a32 =
    small_within_b s w.a12 w.a22 w.a32 m (le_is _ _ n2) (unit_column w.a12 w.a22 w.a32 _ _ _ (determinant int_ops w) (by_ring int_ops int_laws (entries w) (determinant quoted matrix) (along_column_2 quoted matrix) refl) one) in
    let c3 : SmallColumn w.a13 w.a23 w.a33 =
    small_within_c s w.a13 w.a23 w.a33 m (le_is _ _ n3) flat (unit_column w.a13 w.a23 w.a33 _ _ _ (determinant int_ops w) (by_ring int_ops int_laws (entries w) (determinant quoted matrix) (along_column_3 quoted matrix) refl) one) in
    record {
      a11 = size_of_small _ c1.first;
      a12 = size_of_small _ c2.first;
      a13 = size_of_small _ c3.first;
      a21 = size_of_small _ c1.second;
      a22 = size_of_small _ c2.second;
      a23 = size_of_small _ c3.second;
      a31 = size_of_small _ c1.third;
      a32 = size_of_small _ c2.third;
      a33 = size_of_small _ c3.third;
    }
  where
    -- with a33 = 0 one of a31 and a32 is not 0, so C is at most A or B
    flat : w.a33 ≡ pos 0 → s.cc ≤ℤ s.bb
    flat hi =
        elim (zero_or w.a31) [
          | inl hg ↦ elim (zero_or w.a32) [
            | inl hh ↦ absurd (zero_row w.a31 w.a32 w.a33 _ _ _ (determinant int_ops w) (by_ring int_ops int_laws (entries w) (determinant quoted matrix) (along_row_3 quoted matrix) refl) one hg hh hi)
            | inr nh ↦ subst (λ (n : ℤ). s.cc ≤ℤ n) n2 (least_c s w.a12 w.a22 w.a32 m nh)
          ]
          | inr ng ↦ ≤ℤ_trans _ _ _ (subst (λ (n : ℤ). s.cc ≤ℤ n) n1 (least_c s w.a11 w.a21 w.a31 m ng)) m.a_to_b
        ]

-- an isometry of a reduced metric tensor has entries -1, 0 and 1
pub isometry_small : (s : Tensor ℤ) (w : Matrix) → IsReduced s → KeepsMetric (tensor_matrix s) w → EachEntry (AtMost 1) w
isometry_small s w m k =
    columns_small s w m (length_1 s s w k) (length_2 s s w k) (length_3 s s w k) (square_one s w m k)
