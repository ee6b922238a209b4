use Rattle.std.proofs.Common.{take, map}
use Rattle.std.specs.Prelude.{◌≡◌, ◌↔◌, ◌⊎◌}
use Rattle.lists.specs.Increasing.{IsMember}
use Rattle.lists.specs.Any.{AnyOf}
use Rattle.crystal_spec.specs.Operations.{Operation}
use Rattle.positions.specs.Positions.{triple_of}
use Rattle.op_group.specs.Views.{operation_of}
use Rattle.site_orbits.specs.Images.{image_within}
use Rattle.site_orbits.proofs.images.fixing.Given as goal

-- exactly those so far that leave the position
abbrev pub invariant-loop-op : goal.invariant-loop-op
invariant-loop-op l =
    (o : Operation) → IsMember o (map operation_of l.found.items) ↔ (AnyOf (take l.op-index l.ops) (λ x. (o ≡ operation_of x) × (image_within l.n (triple_of l.place) o ≡ triple_of l.place)) ⊎ ⊥)
