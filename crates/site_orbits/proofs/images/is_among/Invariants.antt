use Rattle.std.proofs.Common.{drop, map}
use Rattle.positions.specs.Positions.{triple_of}
use Rattle.lists.specs.Increasing.{IsMember}
use Rattle.site_orbits.proofs.images.is_among.Given as goal

-- where the position is one of the images, it is one of the rest
abbrev pub invariant-loop-image : goal.invariant-loop-image
invariant-loop-image l = IsMember (triple_of l.place) (map triple_of l.images) → IsMember (triple_of l.place) (map triple_of (drop l.image-index l.images))
