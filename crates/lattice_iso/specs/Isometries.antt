-- The list of the isometries of a metric tensor.
--   matrix_order v w       the order of matrices
--   ListsIsometries g ws   ws is the strictly increasing list of exactly the integer matrices w with wᵀ g w = g
use Rattle.std.specs.Prelude.{◌↔◌, List}
use Rattle.std.specs.declared.cmp.Ordering.{Ordering}
use Rattle.std.specs.Ordering.{int_cmp}
use Rattle.std.specs.Cmp.Lexicographic.{slice_cmp}
use Rattle.lists.specs.Increasing.{IsIncreasing, IsMember}
use Rattle.matrix3.specs.Matrices.{entries}
use Rattle.crystal_spec.specs.Matrices.{Matrix}
use Rattle.crystal_spec.specs.Crystals.{KeepsMetric}

-- by the first of the nine entries that differs, row by row
unfoldable pub matrix_order : Matrix → Matrix → Ordering
matrix_order v w = slice_cmp int_cmp (entries v) (entries w)

pub record ListsIsometries (g : Matrix) (ws : List Matrix) : Type 0 where
  pub increasing : IsIncreasing matrix_order ws
  pub exact : (w : Matrix) → IsMember w ws ↔ KeepsMetric g w
