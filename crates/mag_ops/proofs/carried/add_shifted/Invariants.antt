use Rattle.std.proofs.Common.{◌≡◌, take, map}
use Rattle.std.specs.Prelude.{◌↔◌, ◌⊎◌}
use Rattle.lists.specs.Increasing.{IsMember}
use Rattle.lists.specs.Any.{AnyOf}
use Rattle.crystal_spec.specs.Operations.{Operation}
use Rattle.positions.specs.Positions.{triple_of}
use Rattle.op_group.specs.Views.{operation_of}
use Rattle.mag_ops.proofs.carried.add_shifted.Given as goal

-- found so far: those that were there, and exactly those of the translation parts so far
abbrev pub invariant-loop-shift : goal.invariant-loop-shift
invariant-loop-shift l =
    (o : Operation) → IsMember o (map operation_of l.found.items) ↔ (AnyOf (take l.shift-index l.shifts) (λ s. o ≡ record { matrix = l.w; translation = triple_of s; sign = l.sign }) ⊎ IsMember o (map operation_of l.initial.found.items))
