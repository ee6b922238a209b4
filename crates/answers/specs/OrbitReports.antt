-- What `orbits` tells of a crystal.
--   IsOrbitReport c q bytes   the orbits of the atoms of c, with its primitive cell in the basis of q
-- Our own.
use Rattle.std.specs.Prelude.{◌≡◌, List, ℕ, length}
use Rattle.crystal_spec.specs.Matrices.{Matrix}
use Rattle.crystal_spec.specs.Crystals.{Structure}
use Rattle.crystal_spec.specs.Operations.{Operation, ListsAll}
use Rattle.lattice_spec.specs.Niggli.{IsNiggli}
use Rattle.basis_spec.specs.Bases.{cell_in_basis, IsPrimitiveIn}
use Rattle.site_orbits.specs.Entries.{AtomOrbit, HaveOrbits}
use Rattle.report_text.specs.OrbitText.{orbit_text}

-- Q takes coordinates to those in a Niggli-reduced basis of all translations of the crystal. The bytes are the lines of the
-- orbits of the atoms under the list of all symmetry operations there, with the site-symmetry groups.
pub record IsOrbitReport (c : Structure) (q : Matrix) (bytes : List ℕ) : Type 0 where
  pub primitive : IsPrimitiveIn c q
  pub niggli : IsNiggli (cell_in_basis c q).metric
  pub operations : List Operation
  pub all : ListsAll (cell_in_basis c q) operations
  pub orbits : List AtomOrbit
  pub of_each_atom : length orbits ≡ length c.atoms
  pub are_orbits : HaveOrbits c q (cell_in_basis c q) operations orbits
  pub lines : bytes ≡ orbit_text c.names c.atoms orbits
