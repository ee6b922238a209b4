-- A cell in another basis while it is made.
--   with_atoms made c r atoms   the cell `made` with these atoms of c, in the basis to which r takes coordinates
--   started c r                 the cell of c in that basis with the first name and the first atom alone
use Rattle.std.specs.Prelude.{List, map, take}
use Rattle.crystal_spec.specs.Matrices.{Matrix}
use Rattle.crystal_spec.specs.Crystals.{Atom, Structure}
use Rattle.basis_spec.specs.Bases.{cell_in_basis, first_at_each_position, in_basis}

-- in order, each atom left out where its position came before
abbrev pub with_atoms : Structure → Structure → Matrix → List Atom → Structure
with_atoms made c r atoms = record made { atoms = first_at_each_position (map (in_basis c.n c.kind r) atoms) }

-- one name and one atom
abbrev pub started : Structure → Matrix → Structure
started c r = with_atoms (record (cell_in_basis c r) { names = take 1 c.names }) c r (take 1 c.atoms)
