use Rattle.std.proofs.Common.{take, map}
use Rattle.lists.specs.Increasing.{IsMember}
use Rattle.crystal_spec.specs.Crystals.{Atom}
use Rattle.crystal.specs.Views.{atom_of}
use Rattle.crystal.specs.Covering.{IsListed}
use Rattle.crystal.proofs.place_index.PlaceIndex.new.Given as goal

-- the positions so far are listed
abbrev pub invariant-loop-atom : goal.invariant-loop-atom
invariant-loop-atom l = (a : Atom) → IsMember a (map atom_of (take l.atom-index l.atoms)) → IsListed l.places.keys a
