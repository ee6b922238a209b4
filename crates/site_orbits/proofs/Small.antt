-- The matrices of the operations of a cell with a reduced metric tensor have entries -1, 0 and 1.
use Rattle.std.proofs.Common.{◌≡◌, List}
use Rattle.crystal_spec.specs.Matrices.{Matrix, transposed}
use Rattle.crystal_spec.specs.Crystals.{Structure, KeepsMetric}
use Rattle.crystal_spec.specs.Operations.{Operation, ListsAll}
use Rattle.lattice_spec.specs.Niggli.{IsNiggli}
use Rattle.matrix3.specs.Bounds.{EntriesAtMost}
use Rattle.lattice_iso.proofs.ByColumns.{entries_of_short}
use Rattle.op_group.specs.Lists.{HasEntriesAtMost}

isometry_small : (g w : Matrix) → IsNiggli g → transposed g ≡ g → KeepsMetric g w → EntriesAtMost 1 w
isometry_small g w niggli symmetric keeps = entries_of_short g w symmetric niggli.main keeps

-- each keeps the metric tensor
pub small_of_all : (c : Structure) (os : List Operation) → IsNiggli c.metric → transposed c.metric ≡ c.metric → ListsAll c os → HasEntriesAtMost 1 os
small_of_all c os niggli symmetric all o m = isometry_small c.metric o.matrix niggli symmetric ((all.exact o).0 m).keeps.metric
