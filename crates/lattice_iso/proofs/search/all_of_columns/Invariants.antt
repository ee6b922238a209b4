use Rattle.std.proofs.Common.{take}
use Rattle.std.specs.Prelude.{◌↔◌, ◌⊎◌}
use Rattle.lists.specs.Increasing.{IsMember}
use Rattle.crystal_spec.specs.Matrices.{Matrix}
use Rattle.lattice_iso.specs.Columns.{HasColumnsOf}
use Rattle.lattice_iso.proofs.search.all_of_columns.Given as goal

-- found so far: exactly those of the first columns so far
abbrev pub invariant-loop-a : goal.invariant-loop-a
invariant-loop-a l =
    (w : Matrix) → IsMember w l.found ↔ (HasColumnsOf l.g (take l.a-index l.first) l.second l.third w ⊎ ⊥)
