use Rattle.std.proofs.Common.{take}
use Rattle.std.specs.Prelude.{◌↔◌, ◌⊎◌}
use Rattle.lists.specs.Increasing.{IsMember}
use Rattle.lists.specs.Any.{AnyOf}
use Rattle.crystal_spec.specs.Matrices.{Matrix}
use Rattle.lattice_iso.specs.Columns.{IsMatrixOf}
use Rattle.lattice_iso.proofs.search.add_with_columns.Given as goal

-- found so far: those that were there, and exactly those of the third columns so far
abbrev pub invariant-loop-c : goal.invariant-loop-c
invariant-loop-c l =
    (w : Matrix) → IsMember w l.found ↔ (AnyOf (take l.c-index l.third) (λ c. IsMatrixOf l.g l.a l.b c w) ⊎ IsMember w l.initial.found)
