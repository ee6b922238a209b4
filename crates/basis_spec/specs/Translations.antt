-- The translations of a crystal.
--   IsTranslation c t             the translation by t carries the crystal c onto itself
--   IsPureTranslation c t         so it does, and t is within one cell
--   HasOnlyWholeCells c           c has no translation but those by whole cells
--   IsPrimitive c                 the cell of c is primitive: no pure translation but (0, 0, 0)
--   pure_translation t            the operation (I, t, +1)
--   ListsPureTranslations c os    os is the strictly increasing list of exactly the pure translations of c
use Rattle.std.specs.Prelude.{◌≡◌, ◌↔◌, ℕ, pos, eqb, true, false, ◌≤◌, List, [], ◌∷◌, length}
use Rattle.lists.specs.Increasing.{IsIncreasing, IsMember}
use Rattle.crystal_spec.specs.declared.Sign.TheVariants.{Same}
use Rattle.crystal_spec.specs.Matrices.{Triple, identity}
use Rattle.crystal_spec.specs.Crystals.{Atom, Structure, Keeps}
use Rattle.crystal_spec.specs.Operations.{Operation, compare_of, IsWithinCell, IsSymmetryOperation}
use Rattle.positions.specs.Positions.{origin, IsWholeCells}

-- the translation by t, which may be any triple, carries the crystal onto itself
abbrev pub IsTranslation : Structure → Triple → Type 0
IsTranslation c t = Keeps c identity t (pos 1)

-- a translation of the crystal within one cell
pub record IsPureTranslation (c : Structure) (t : Triple) : Type 0 where
  pub translation : IsWithinCell c.n t
  pub keeps : IsTranslation c t

-- no translation but by whole cells
abbrev pub HasOnlyWholeCells : Structure → Type 0
HasOnlyWholeCells c = (t : Triple) → IsTranslation c t → IsWholeCells c.n t

-- no pure translation but (0, 0, 0)
abbrev pub IsPrimitive : Structure → Type 0
IsPrimitive c = (t : Triple) → IsPureTranslation c t → t ≡ origin

-- the operation (I, t, +1)
abbrev pub pure_translation : Triple → Operation
pure_translation t = record { matrix = identity; translation = t; sign = Same }

-- the strictly increasing list of exactly the operations (I, t, +1) that keep the crystal, with t within one cell
pub record ListsPureTranslations (c : Structure) (os : List Operation) : Type 0 where
  pub increasing : IsIncreasing compare_of os
  pub exact : (o : Operation) → IsMember o os ↔ ((o ≡ pure_translation o.translation) × IsSymmetryOperation c o)
