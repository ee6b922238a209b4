use Rattle.std.proofs.Common.{take, map}
use Rattle.std.specs.Prelude.{◌↔◌, ◌⊎◌}
use Rattle.lists.specs.Increasing.{IsMember}
use Rattle.lists.specs.Any.{AnyOf}
use Rattle.crystal_spec.specs.Operations.{Operation}
use Rattle.op_group.specs.Views.{operation_of}
use Rattle.mag_ops.specs.Carried.{IsCarriedFrom}
use Rattle.mag_ops.proofs.carried.in_cell.Given as goal

-- exactly what is carried from the operations so far
abbrev pub invariant-loop-op : goal.invariant-loop-op
invariant-loop-op l =
    (o : Operation) → IsMember o (map operation_of l.carried.items) ↔ (AnyOf (take l.op-index l.ops) (λ x. IsCarriedFrom l.prim.cell.n l.prim.back (operation_of x) o) ⊎ ⊥)
