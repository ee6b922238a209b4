-- Orbits of positions under a list of operations, and site-symmetry groups [ITB]. In units of 1/n, but for whole cells.
--   Carries n o p q            o carries the position p to q
--   IsAlike n os p q           some member of os does so: p and q are symmetry-equivalent
--   IsFixedBy n os p o         o is a member of os that carries p to itself
--   ListsSite n os p site      site is the strictly increasing list of exactly these
--   IsInOrbit c os p a         a is an atom of c to whose position members carry p
--   CountsOrbit c os p k       k is how many such atoms there are
--   IsFirstAlike c r os p i    the atom number i of c is the first to whose position, in the basis to which r takes
--                              coordinates, members carry p
--   IsEquivalence alike        being alike is reflexive, symmetric and transitive
--   HasOneSpecies c r alike    atoms of c with alike positions in that basis are of one species
use Rattle.std.specs.Prelude.{◌≡◌, ◌↔◌, ℕ, ◌≤◌, List, length, slice_get, Some}
use Rattle.lists.specs.Increasing.{IsIncreasing, IsMember, IsDistinct}
use Rattle.crystal_spec.specs.Matrices.{Triple, Matrix, image}
use Rattle.crystal_spec.specs.Crystals.{Atom, Structure, position_after}
use Rattle.crystal_spec.specs.Operations.{Operation, compare_of}
use Rattle.crystal_spec.specs.Cells.{DiffersByCells}

-- W p + w differs from q by whole cells
abbrev pub Carries : ℕ → Operation → Triple → Triple → Type 0
Carries n o p q = DiffersByCells n (position_after o.matrix o.translation p) q

-- some member carries the one to the other
pub record IsAlike (n : ℕ) (os : List Operation) (p q : Triple) : Type 0 where
  pub operation : Operation
  pub of_list : IsMember operation os
  pub carries : Carries n operation p q

-- a member that carries p to itself
abbrev pub IsFixedBy : ℕ → List Operation → Triple → Operation → Type 0
IsFixedBy n os p o = IsMember o os × Carries n o p p

-- the site-symmetry group of p: exactly the members that carry p to itself, in order
pub record ListsSite (n : ℕ) (os : List Operation) (p : Triple) (site : List Operation) : Type 0 where
  pub increasing : IsIncreasing compare_of site
  pub exact : (o : Operation) → IsMember o site ↔ IsFixedBy n os p o

-- an atom to whose position members carry p
abbrev pub IsInOrbit : Structure → List Operation → Triple → Atom → Type 0
IsInOrbit c os p a = IsMember a c.atoms × IsAlike c.n os p a.position

-- the length of a list that has each of these atoms once, and no other
pub record CountsOrbit (c : Structure) (os : List Operation) (p : Triple) (k : ℕ) : Type 0 where
  pub atoms : List Atom
  pub once : IsDistinct atoms
  pub exact : (a : Atom) → IsMember a atoms ↔ IsInOrbit c os p a
  pub is : k ≡ length atoms

-- members carry p to the position of atom number i, and those atoms to whose positions they carry it have no lesser number
pub record IsFirstAlike (c : Structure) (r : Matrix) (os : List Operation) (p : Triple) (i : ℕ) : Type 0 where
  pub atom : Atom
  pub is_atom : slice_get c.atoms i ≡ Some atom
  pub alike : IsAlike c.n os p (image r atom.position)
  pub least : (j : ℕ) (a : Atom) → slice_get c.atoms j ≡ Some a → IsAlike c.n os p (image r a.position) → i ≤ j

pub record IsEquivalence (alike : Triple → Triple → Type 0) : Type 0 where
  pub reflexive : (p : Triple) → alike p p
  pub symmetric : (p q : Triple) → alike p q → alike q p
  pub transitive : (p q u : Triple) → alike p q → alike q u → alike p u

-- no two species are in one orbit
abbrev pub HasOneSpecies : Structure → Matrix → (Triple → Triple → Type 0) → Type 0
HasOneSpecies c r alike = (a b : Atom) → IsMember a c.atoms → IsMember b c.atoms → alike (image r a.position) (image r b.position) → a.species ≡ b.species
