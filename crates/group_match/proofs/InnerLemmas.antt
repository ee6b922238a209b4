-- The matrix C with C S = S W, by division of S W fore by the index.
use Rattle.std.proofs.Common.{◌≡◌, sym, ap, ◌∙◌, ℕ, ◌≤◌, ℤ, pos, ◌≤ℤ◌, ◌<ℤ◌, arith}
use Rattle.std.proofs.lemmas.Int.{ints}
use Rattle.crystal_spec.specs.Matrices.{Matrix, product, identity}
use Rattle.basis_spec.specs.Metrics.{matrix_multiple}
use Rattle.basis_spec.proofs.MatrixLaws.{product_assoc, product-identity, product-matrix_multiple_left, product-matrix_multiple_right}
use Rattle.basis_spec.proofs.Cancelling.{matrix_multiple_cancel}
use Rattle.group_match.specs.Sources.{IsStepPair}

pub index_nonzero : (i : ℤ) → pos 1 ≤ℤ i → i ≡ pos 0 → ⊥
index_nonzero i h e = omega (arith, ints, h, e)

pub index_above : (i : ℤ) → pos 1 ≤ℤ i → pos 0 <ℤ i
index_above i h = omega (arith, ints, h)

pub index_positive : (index : ℕ) → 1 ≤ index → pos 0 <ℤ pos index
index_positive index h = omega (arith, ints, h)

pub index_whole : (index : ℕ) → 1 ≤ index → pos 1 ≤ℤ pos index
index_whole index h = omega (arith, ints, h)

module _ (index : ℕ) (s fore w : Matrix) (k : IsStepPair index s fore) where
  -- C = S W fore / index
  pub inner_of : (c : Matrix) → product (product s w) fore ≡ matrix_multiple (pos index) c → product c s ≡ product s w
  inner_of c e =
      matrix_multiple_cancel (pos index) (product c s) (product s w) (index_positive index k.at_least)
      (sym (product-matrix_multiple_left (pos index) c s) ∙ (ap (λ m. product m s) (sym e) ∙ (product_assoc (product s w) fore s ∙ (ap (product (product s w)) k.left ∙ (product-matrix_multiple_right (pos index) (product s w) identity ∙ ap (matrix_multiple (pos index)) (product-identity (product s w)))))))

  pub of_inner : (c : Matrix) → product c s ≡ product s w → product (product s w) fore ≡ matrix_multiple (pos index) c
  of_inner c e =
      ap (λ m. product m fore) (sym e) ∙ (product_assoc c s fore ∙ (ap (product c) k.right ∙ (product-matrix_multiple_right (pos index) c identity ∙ ap (matrix_multiple (pos index)) (product-identity c))))
