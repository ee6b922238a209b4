-- The atom at a position.
--   IsOccupant atoms p i   the atom number i, from 0, is at the position p
--   NoneAt p atoms         none of the atoms is at the position p
use Rattle.std.specs.Prelude.{◌≡◌, ℕ, List, [], ◌∷◌, slice_get, Some}
use Rattle.crystal_spec.specs.Matrices.{Triple}
use Rattle.crystal_spec.specs.Crystals.{Atom}

pub record IsOccupant (atoms : List Atom) (position : Triple) (i : ℕ) : Type 0 where
  pub atom : Atom
  pub numbered : slice_get atoms i ≡ Some atom
  pub here : atom.position ≡ position

abbrev pub NoneAt : Triple → List Atom → Type 0
NoneAt position [] = Unit {0}
NoneAt position (atom ∷ atoms) = (atom.position ≡ position → ⊥) × NoneAt position atoms
