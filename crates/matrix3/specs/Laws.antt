-- The laws of the matrix product over the operations of a ring, among matrices whose entries P holds for.
--   ProductAssociates o P          (A B) C = A (B C)
--   TransposeReversesProduct o P   (A B)ᵀ = Bᵀ Aᵀ
--   DeterminantOfProduct o P       det (A B) = det A · det B
--   AdjugateTimesMatrix o P        adj(A) A = A adj(A) = det A · I
use Rattle.std.specs.Prelude.{◌≡◌}
use Rattle.ring.specs.Ring.{Ops}
use Rattle.matrix3.specs.declared.matrix.Mat3.{Mat3}
use Rattle.matrix3.specs.Matrices.{product, transposed, determinant, adjugate, scalar, EachEntry}

module _ {R : Type 0} (o : Ops R) (P : R → Type 0) where
  open o use {◌⊗◌}

  -- the product associates
  abbrev pub ProductAssociates : Type 0
  ProductAssociates = (a b c : Mat3 R) → EachEntry P a → EachEntry P b → EachEntry P c → product o (product o a b) c ≡ product o a (product o b c)

  -- the transpose of a product is the product of the transposes in reverse order
  abbrev pub TransposeReversesProduct : Type 0
  TransposeReversesProduct = (a b : Mat3 R) → EachEntry P a → EachEntry P b → transposed (product o a b) ≡ product o (transposed b) (transposed a)

  -- the determinant of a product is the product of the determinants
  abbrev pub DeterminantOfProduct : Type 0
  DeterminantOfProduct = (a b : Mat3 R) → EachEntry P a → EachEntry P b → determinant o (product o a b) ≡ determinant o a ⊗ determinant o b

  -- the adjugate times the matrix, on either side, is the determinant times the identity
  abbrev pub AdjugateTimesMatrix : Type 0
  AdjugateTimesMatrix = (a : Mat3 R) → EachEntry P a → (product o (adjugate o a) a ≡ scalar o (determinant o a)) × (product o a (adjugate o a) ≡ scalar o (determinant o a))
