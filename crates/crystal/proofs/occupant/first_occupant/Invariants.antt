use Rattle.std.proofs.Common.{drop, map}
use Rattle.crystal.specs.Views.{atom_of}
use Rattle.positions.specs.Positions.{triple_of}
use Rattle.crystal.specs.Occupants.{NoneAt}
use Rattle.crystal.proofs.occupant.first_occupant.Given as goal

-- where none of the rest is there, none is
abbrev pub invariant-loop-i : goal.invariant-loop-i
invariant-loop-i l = NoneAt (triple_of l.place) (map atom_of (drop l.i l.atoms)) → NoneAt (triple_of l.place) (map atom_of l.atoms)
