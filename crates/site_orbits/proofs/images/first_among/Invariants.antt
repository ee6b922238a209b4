use Rattle.std.specs.Prelude.{◌≡◌, ℕ, ◌<◌, map, slice_get, Some}
use Rattle.lists.specs.Increasing.{IsMember}
use Rattle.crystal_spec.specs.Crystals.{Atom}
use Rattle.positions.specs.Positions.{triple_of}
use Rattle.site_orbits.specs.Images.{position_in}
use Rattle.site_orbits.proofs.images.first_among.Given as goal

-- none of the atoms so far is at one of the images
abbrev pub invariant-loop-j : goal.invariant-loop-j
invariant-loop-j l = (k : ℕ) (a : Atom) → k < l.j → slice_get l.cell.atoms k ≡ Some a → IsMember (position_in l.cell.n l.r a) (map triple_of l.images) → ⊥
