-- What `moments` tells of a crystal.
--   IsMomentsReport c q bytes   the moments that the atoms of c allow, with its primitive cell in the basis of q
-- Our own.
use Rattle.std.specs.Prelude.{◌≡◌, ℕ, List}
use Rattle.crystal_spec.specs.Matrices.{Matrix}
use Rattle.crystal_spec.specs.Crystals.{Structure}
use Rattle.lattice_spec.specs.Niggli.{IsNiggli}
use Rattle.basis_spec.specs.Bases.{cell_in_basis, IsPrimitiveIn}
use Rattle.site_orbits.specs.Entries.{AtomOrbit}
use Rattle.moments_text.specs.MomentsText.{AreOrbits, moments_text}

-- Q takes coordinates to those in a Niggli-reduced basis of all translations of the crystal. The bytes are the lines of the
-- projectors onto the moments that the site-symmetry groups allow, under the list of all symmetry operations there.
pub record IsMomentsReport (c : Structure) (q : Matrix) (bytes : List ℕ) : Type 0 where
  pub primitive : IsPrimitiveIn c q
  pub niggli : IsNiggli (cell_in_basis c q).metric
  pub orbits : List AtomOrbit
  pub are_orbits : AreOrbits c q (cell_in_basis c q) orbits
  pub lines : bytes ≡ moments_text q c orbits
