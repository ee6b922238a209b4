use Rattle.std.proofs.Common.{take}
use Rattle.std.specs.Prelude.{◌↔◌, ◌⊎◌}
use Rattle.lists.specs.Increasing.{IsMember}
use Rattle.crystal_spec.specs.Matrices.{Matrix}
use Rattle.lattice_iso.specs.Columns.{HasFirstColumn}
use Rattle.lattice_iso.proofs.search.add_with_first_column.Given as goal

-- found so far: those that were there, and exactly those of the second columns so far
abbrev pub invariant-loop-b : goal.invariant-loop-b
invariant-loop-b l =
    (w : Matrix) → IsMember w l.found ↔ (HasFirstColumn l.g l.a (take l.b-index l.second) l.third w ⊎ IsMember w l.initial.found)
