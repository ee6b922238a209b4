-- Images of a position modulo n, and the atoms at them. No public contract cites these words.
--   image_within n p o              where o carries the position p, modulo n
--   position_in n r a               the position of the atom a in the basis to which r takes coordinates, modulo n
--   is_one_of qs p                  p is one of the positions qs
--   atoms_at qs atoms               the atoms at one of the positions qs
--   IsFirstAmong n r qs atoms i j   j is the number of the first atom that is at one of qs so, or i where none before i is
use Rattle.std.specs.Prelude.{◌≡◌, ◌⊎◌, ℕ, ◌≤◌, ◌<◌, Bool, true, false, ◌||◌, List, [], ◌∷◌, slice_get, Some}
use Rattle.lists.specs.Increasing.{IsMember}
use Rattle.crystal_spec.specs.Matrices.{Triple, Matrix, image}
use Rattle.crystal_spec.specs.Crystals.{Atom, position_after}
use Rattle.crystal_spec.specs.Operations.{Operation}
use Rattle.positions.specs.Positions.{modulo}
use Rattle.basis_spec.specs.Bases.{is_same_position}

-- W p + w modulo n
abbrev pub image_within : ℕ → Triple → Operation → Triple
image_within n p o = modulo n (position_after o.matrix o.translation p)

-- r p modulo n
abbrev pub position_in : ℕ → Matrix → Atom → Triple
position_in n r a = modulo n (image r a.position)

-- whether p is one of the list
abbrev pub is_one_of : List Triple → Triple → Bool
is_one_of [] p = false
is_one_of (q ∷ qs) p = is_same_position p q || is_one_of qs p

-- in order, the atoms whose position is one of the list
abbrev pub atoms_at : List Triple → List Atom → List Atom
atoms_at qs [] = []
atoms_at qs (a ∷ atoms) = elim (is_one_of qs a.position) [ true ↦ a ∷ atoms_at qs atoms | false ↦ atoms_at qs atoms ]

-- no atom before number j is at one of these positions; the atom number j is, where it comes before number i
pub record IsFirstAmong (n : ℕ) (r : Matrix) (qs : List Triple) (atoms : List Atom) (i j : ℕ) : Type 0 where
  pub at_most : j ≤ i
  pub found : (a : Atom) → slice_get atoms j ≡ Some a → (j ≡ i) ⊎ IsMember (position_in n r a) qs
  pub none_before : (k : ℕ) (a : Atom) → k < j → slice_get atoms k ≡ Some a → IsMember (position_in n r a) qs → ⊥
