-- How many atoms share a species.
--   of_species s atoms   the atoms of a species
--   IsRarest c count     count is the least number of atoms of c that share a species
use Rattle.std.specs.Prelude.{◌≡◌, ◌≤◌, ℕ, eqb, true, false, List, [], ◌∷◌, length}
use Rattle.lists.specs.Increasing.{IsMember}
use Rattle.crystal_spec.specs.Crystals.{Atom, Structure}

-- the atoms of a species, in order
abbrev pub of_species : ℕ → List Atom → List Atom
of_species s [] = []
of_species s (a ∷ atoms) = elim (eqb a.species s) [ true ↦ a ∷ of_species s atoms | false ↦ of_species s atoms ]

-- the least number of atoms that share a species: no species of an atom has fewer, and one has as many
pub record IsRarest (c : Structure) (count : ℕ) : Type 0 where
  pub least : (a : Atom) → IsMember a c.atoms → count ≤ length (of_species a.species c.atoms)
  pub atom : Atom
  pub of_cell : IsMember atom c.atoms
  pub is : count ≡ length (of_species atom.species c.atoms)
