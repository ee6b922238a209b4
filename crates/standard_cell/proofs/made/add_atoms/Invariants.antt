use Rattle.std.proofs.Common.{◌≡◌, take, map}
use Rattle.crystal.specs.Views.{atom_of}
use Rattle.standard_cell.proofs.made.add_atoms.Given as goal

-- the atoms so far are there
abbrev pub invariant-loop-i : goal.invariant-loop-i
invariant-loop-i l = l.made ≡ record l.initial.made { atoms = take l.i (map atom_of l.atoms) }
