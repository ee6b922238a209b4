-- Strictly increasing lists of operations with translation parts within one cell.
--   OperationList                an n and a list of operations
--   AllWithinCell n os           the translation parts are from 0 to n - 1
--   IsOperationList n os         they are, and the operations are strictly increasing
--   HasOnlyPureTranslations os   each operation is (I, t, +1)
--   HasEntriesAtMost k os        the entries of the matrices have at most the size k
--   HasFewMatrices k os          the matrices are among k matrices
use Rattle.std.specs.Prelude.{◌≡◌, ◌≤◌, ℕ, List, length}
use Rattle.lists.specs.Increasing.{IsIncreasing, IsMember}
use Rattle.matrix3.specs.Bounds.{EntriesAtMost}
use Rattle.crystal_spec.specs.Matrices.{Matrix}
use Rattle.crystal_spec.specs.Operations.{Operation, compare_of, IsWithinCell}
use Rattle.basis_spec.specs.Translations.{pure_translation}

-- operations, and the n of their translation parts
pub record OperationList : Type 0 where
  pub n : ℕ
  pub operations : List Operation

-- the translation part of each operation is within one cell
abbrev pub AllWithinCell : ℕ → List Operation → Type 0
AllWithinCell n os = (o : Operation) → IsMember o os → IsWithinCell n o.translation

-- the operations are strictly increasing, with translation parts from 0 to n - 1
pub record IsOperationList (n : ℕ) (os : List Operation) : Type 0 where
  pub ordered : IsIncreasing compare_of os
  pub within_cell : AllWithinCell n os

-- each operation of the list is (I, t, +1)
abbrev pub HasOnlyPureTranslations : List Operation → Type 0
HasOnlyPureTranslations os = (o : Operation) → IsMember o os → o ≡ pure_translation o.translation

-- the entries of each matrix have at most this size
abbrev pub HasEntriesAtMost : ℕ → List Operation → Type 0
HasEntriesAtMost k os = (o : Operation) → IsMember o os → EntriesAtMost k o.matrix

-- the matrices of the operations are among k matrices
pub record HasFewMatrices (k : ℕ) (os : List Operation) : Type 0 where
  pub matrices : List Matrix
  pub all : (o : Operation) → IsMember o os → IsMember o.matrix matrices
  pub few : length matrices ≤ k
