-- What every cell of a magnetic crystal has, whatever its size.
--   DiffersByCells n p q   p and q differ by whole cells: by a multiple of n in each coordinate
--   HasOneAtomEach c       no two atoms of the cell are at one position, but for whole cells
--   IsCell c               c is a cell: a symmetric, positive metric tensor, and atoms within the cell, one at a position
-- Our own; the metric tensor as in [ITB].
use Rattle.std.specs.Prelude.{◌≡◌, ℕ, pos, ◌<ℤ◌, ◌<◌, length}
use Rattle.lists.specs.Increasing.{IsMember}
use Rattle.crystal_spec.specs.Matrices.{Triple, transposed, multiple, sum_of}
use Rattle.crystal_spec.specs.Crystals.{Atom, Structure, IsPositive}
use Rattle.crystal_spec.specs.Operations.{IsWithinCell}

-- p is q and so many whole cells
pub record DiffersByCells (n : ℕ) (p q : Triple) : Type 0 where
  pub cells : Triple
  pub is : p ≡ sum_of q (multiple (pos n) cells)

-- no two atoms are at one position, whatever their species
abbrev pub HasOneAtomEach : Structure → Type 0
HasOneAtomEach c = (a b : Atom) → IsMember a c.atoms → IsMember b c.atoms → DiffersByCells c.n a.position b.position → a ≡ b

-- what every cell has: a symmetric, positive metric tensor, and at least one atom, each of a named species and within the
-- cell, no two at one position
pub record IsCell (c : Structure) : Type 0 where
  pub symmetric : transposed c.metric ≡ c.metric
  pub positive : IsPositive c.metric
  pub some_cells : pos 0 <ℤ pos c.n
  pub first : Atom
  pub of_cell : IsMember first c.atoms
  pub named : (a : Atom) → IsMember a c.atoms → a.species < length c.names
  pub within : (a : Atom) → IsMember a c.atoms → IsWithinCell c.n a.position
  pub one_atom_each : HasOneAtomEach c
