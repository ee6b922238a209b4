-- Cells that are filled with a moment and with those to which the operations of a group carry it.
--   IsSiteAt c r b os i site       site is the site-symmetry group of the atom number i of c in the primitive cell b
--   IsFilledAtom ..                an atom of the filled cell, in place of one of the cell
--   AreFilled ..                   the atoms of the filled cell, in place of those of the cell, in order
--   IsFilled c os q m f            f is c with the moment m at the position q, and all else as it was
--   IsFilledAt c r b os i m f      f is so filled from b, at the position of the atom number i of c
--   HasOneMoment kind n os q m     all operations that carry the position q to one position carry the moment m to one moment
--   HasOneMomentAt c r b os i site the moments that site allows have one moment each at the positions to which operations of os
--                                  carry that of the atom number i of c
--   AllowsOwnMoment c r i site     the moment of the atom number i of c is allowed
--   IsKeptBy os f                  each operation of os keeps the crystal of f
use Rattle.std.specs.Prelude.{◌≡◌, ℕ, List, [], ◌∷◌, slice_get, Some}
use Rattle.lists.specs.Increasing.{IsMember}
use Rattle.crystal_spec.specs.declared.MomentKind.{MomentKind}
use Rattle.crystal_spec.specs.Matrices.{Triple, Matrix, image}
use Rattle.crystal_spec.specs.Moments.{turn_matrix}
use Rattle.crystal_spec.specs.Crystals.{Atom, Structure, Keeps, moment_after}
use Rattle.crystal_spec.specs.Operations.{Operation, sign_factor}
use Rattle.site_orbits.specs.Orbits.{Carries, IsAlike, ListsSite}
use Rattle.moment_space.specs.Projectors.{IsAllowed}

-- r takes coordinates of c to those in the primitive cell b: the operations are those that carry the position of the atom
-- there to itself
abbrev pub IsSiteAt : Structure → Matrix → Structure → List Operation → ℕ → List Operation → Type 0
IsSiteAt c r b os i site = (a : Atom) → slice_get c.atoms i ≡ Some a → ListsSite b.n os (image r a.position) site

-- The atom b in place of a: where an operation carries the position q to that of a, b has the moment to which it carries m,
-- whichever operation does; where none does, b has the moment of a.
pub record IsFilledAtom (kind : MomentKind) (n : ℕ) (os : List Operation) (q m : Triple) (a b : Atom) : Type 0 where
  pub same_species : b.species ≡ a.species
  pub same_position : b.position ≡ a.position
  pub carried : (o : Operation) → IsMember o os → Carries n o q a.position → b.moment ≡ moment_after kind o.matrix (sign_factor o.sign) m
  pub others : (IsAlike n os q a.position → ⊥) → b.moment ≡ a.moment

-- in order, each atom in place of one
abbrev pub AreFilled : MomentKind → ℕ → List Operation → Triple → Triple → List Atom → List Atom → Type 0
AreFilled kind n os q m [] [] = Unit {0}
AreFilled kind n os q m [] (b ∷ bs) = ⊥
AreFilled kind n os q m (a ∷ atoms) [] = ⊥
AreFilled kind n os q m (a ∷ atoms) (b ∷ bs) = IsFilledAtom kind n os q m a b × AreFilled kind n os q m atoms bs

-- The cell c with the moment m at the position q, and with the moments to which the operations carry it where they carry q.
-- All else is as it was.
pub record IsFilled (c : Structure) (os : List Operation) (q m : Triple) (f : Structure) : Type 0 where
  pub atoms : AreFilled c.kind c.n os q m c.atoms f.atoms
  pub rest : f ≡ record c { atoms = f.atoms }

-- the primitive cell b so filled at the position of the atom number i of c
abbrev pub IsFilledAt : Structure → Matrix → Structure → List Operation → ℕ → Triple → Structure → Type 0
IsFilledAt c r b os i m f = (a : Atom) → slice_get c.atoms i ≡ Some a → IsFilled b os (image r a.position) m f

-- whichever operation carries q to a position, the moment there is one
abbrev pub HasOneMoment : MomentKind → ℕ → List Operation → Triple → Triple → Type 0
HasOneMoment kind n os q m = (o u : Operation) (p : Triple) → IsMember o os → IsMember u os → Carries n o q p → Carries n u q p →
    moment_after kind o.matrix (sign_factor o.sign) m ≡ moment_after kind u.matrix (sign_factor u.sign) m

-- so for each moment that the site allows, at the position of the atom number i of c in the primitive cell b
abbrev pub HasOneMomentAt : Structure → Matrix → Structure → List Operation → ℕ → List Operation → Type 0
HasOneMomentAt c r b os i site = (a : Atom) → slice_get c.atoms i ≡ Some a → (m : Triple) → IsAllowed c.kind site m → HasOneMoment c.kind b.n os (image r a.position) m

-- the moment of the atom number i of c, in the basis to which r takes coordinates, is one that the operations allow
abbrev pub AllowsOwnMoment : Structure → Matrix → ℕ → List Operation → Type 0
AllowsOwnMoment c r i site = (a : Atom) → slice_get c.atoms i ≡ Some a → IsAllowed c.kind site (image (turn_matrix c.kind r) a.moment)

-- each operation keeps the crystal
abbrev pub IsKeptBy : List Operation → Structure → Type 0
IsKeptBy os f = (o : Operation) → IsMember o os → Keeps f o.matrix o.translation (sign_factor o.sign)
