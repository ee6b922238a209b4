-- Cells while they are filled. No public contract cites these words.
--   HasUnitDeterminants os   the determinants of the matrices are 1 or -1
--   IsCarriedMoment ..       v is a moment to which an operation of the list that carries q to p carries m
--   IsReplaced ..            b is the atom a with such a moment, or a itself where no operation carries q to it
--   ReplacesAt .. atoms i b  b is so the atom number i of these
--   AreReplaced ..           these atoms are so in place of those, in order
--   HasReplaced .. olds c f  f is the cell c with atoms that are so in place of the old ones
--   started c first          the cell c with the first of its names and this atom alone
use Rattle.std.specs.Prelude.{◌≡◌, ◌⊎◌, ℕ, pos, ◌*ℤ◌, List, [], ◌∷◌, take, slice_get, Some}
use Rattle.lists.specs.Increasing.{IsMember}
use Rattle.crystal_spec.specs.declared.MomentKind.{MomentKind}
use Rattle.crystal_spec.specs.Matrices.{Triple, determinant}
use Rattle.crystal_spec.specs.Crystals.{Atom, Structure, moment_after}
use Rattle.crystal_spec.specs.Operations.{Operation, sign_factor}
use Rattle.site_orbits.specs.Orbits.{Carries, IsAlike}

-- each determinant has the square 1
abbrev pub HasUnitDeterminants : List Operation → Type 0
HasUnitDeterminants os = (o : Operation) → IsMember o os → determinant o.matrix *ℤ determinant o.matrix ≡ pos 1

-- an operation that carries the position q to p carries the moment m to v
pub record IsCarriedMoment (kind : MomentKind) (n : ℕ) (os : List Operation) (q m p v : Triple) : Type 0 where
  pub operation : Operation
  pub of_list : IsMember operation os
  pub carries : Carries n operation q p
  pub is : v ≡ moment_after kind operation.matrix (sign_factor operation.sign) m

-- the atom b in place of a
pub record IsReplaced (kind : MomentKind) (n : ℕ) (os : List Operation) (q m : Triple) (a b : Atom) : Type 0 where
  pub same_species : b.species ≡ a.species
  pub same_position : b.position ≡ a.position
  pub moment : IsCarriedMoment kind n os q m a.position b.moment ⊎ ((IsAlike n os q a.position → ⊥) × (b.moment ≡ a.moment))

-- the atom b in place of the one of number i, from 0
pub record ReplacesAt (kind : MomentKind) (n : ℕ) (os : List Operation) (q m : Triple) (atoms : List Atom) (i : ℕ) (b : Atom) : Type 0 where
  pub atom : Atom
  pub is_atom : slice_get atoms i ≡ Some atom
  pub replaced : IsReplaced kind n os q m atom b

-- in order, each atom in place of one
abbrev pub AreReplaced : MomentKind → ℕ → List Operation → Triple → Triple → List Atom → List Atom → Type 0
AreReplaced kind n os q m [] [] = Unit {0}
AreReplaced kind n os q m [] (b ∷ bs) = ⊥
AreReplaced kind n os q m (a ∷ atoms) [] = ⊥
AreReplaced kind n os q m (a ∷ atoms) (b ∷ bs) = IsReplaced kind n os q m a b × AreReplaced kind n os q m atoms bs

-- the cell f is c, but for its atoms, which are in place of these
pub record HasReplaced (kind : MomentKind) (n : ℕ) (os : List Operation) (q m : Triple) (olds : List Atom) (c f : Structure) : Type 0 where
  pub atoms : AreReplaced kind n os q m olds f.atoms
  pub rest : f ≡ record c { atoms = f.atoms }

-- one name and one atom
abbrev pub started : Structure → Atom → Structure
started c first = record c { names = take 1 c.names; atoms = first ∷ [] }
