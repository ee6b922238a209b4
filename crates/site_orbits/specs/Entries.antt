-- The orbits of the atoms of a cell.
--   AtomOrbit                  the first alike atom, the size of the orbit and the site-symmetry group of an atom
--   IsOrbitOf c q b os p o     o is that of the position p in the primitive cell b, for the atoms of c
--   IsOrbitAt c q b os i o     it is that of the atom number i of c
--   HaveOrbits c q b os orbits the orbits of the list are those of the atoms of c, in order
--   AreFirstsBelow orbits      each first alike atom is one of the list
use Rattle.std.specs.Prelude.{◌≡◌, ◌<◌, ℕ, ◌*◌, List, length, slice_get, Some}
use Rattle.crystal_spec.specs.Matrices.{Triple, Matrix, image}
use Rattle.crystal_spec.specs.Crystals.{Atom, Structure}
use Rattle.crystal_spec.specs.Operations.{Operation}
use Rattle.op_group.specs.Lists.{OperationList}
use Rattle.site_orbits.specs.Orbits.{IsFirstAlike, CountsOrbit, ListsSite}

pub record AtomOrbit : Type 0 where
  pub first : ℕ
  pub size : ℕ
  pub site : OperationList

-- Q takes coordinates of c to those in b. The size of the orbit times the count of the site is the count of the operations.
pub record IsOrbitOf (c : Structure) (q : Matrix) (b : Structure) (os : List Operation) (p : Triple) (o : AtomOrbit) : Type 0 where
  pub first : IsFirstAlike c q os p o.first
  pub size : CountsOrbit b os p o.size
  pub same_n : o.site.n ≡ b.n
  pub site : ListsSite b.n os p o.site.operations
  pub product : o.size * length o.site.operations ≡ length os

-- of the atom number i, at its position in the basis to which Q takes coordinates
abbrev pub IsOrbitAt : Structure → Matrix → Structure → List Operation → ℕ → AtomOrbit → Type 0
IsOrbitAt c q b os i o = (a : Atom) → slice_get c.atoms i ≡ Some a → IsOrbitOf c q b os (image q a.position) o

-- of each atom
abbrev pub HaveOrbits : Structure → Matrix → Structure → List Operation → List AtomOrbit → Type 0
HaveOrbits c q b os orbits = (i : ℕ) (o : AtomOrbit) → slice_get orbits i ≡ Some o → IsOrbitAt c q b os i o

-- the number of each first alike atom is that of an atom of the list
abbrev pub AreFirstsBelow : List AtomOrbit → Type 0
AreFirstsBelow orbits = (i : ℕ) (o : AtomOrbit) → slice_get orbits i ≡ Some o → o.first < length orbits
