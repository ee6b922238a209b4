use Rattle.std.proofs.Common.{take, map}
use Rattle.std.specs.Prelude.{◌≡◌}
use Rattle.positions.specs.Positions.{triple_of}
use Rattle.op_group.specs.Views.{operation_of}
use Rattle.site_orbits.specs.Images.{image_within}
use Rattle.site_orbits.proofs.images.images.Given as goal

-- the images under the operations so far
abbrev pub invariant-loop-op : goal.invariant-loop-op
invariant-loop-op l = map triple_of l.images.items ≡ map (λ x. image_within l.n (triple_of l.place) (operation_of x)) (take l.op-index l.ops)
