-- The operations that are tried. No public contract cites these words.
--   IsKeptAs c w t s o              o is the operation of matrix w, translation part t and sign s, and keeps the crystal
--   IsOnto c time w a b o           o is an operation of matrix w and of a wanted sign that keeps the crystal, with the
--                                   translation part within one cell that carries the atom a onto the atom b
--   IsFromAtom c time w a o n       so it is for b the atom number n of the cell, of the species of a
--   IsFromAtoms c time w a k o      so it is for one of the first k atoms
--   IsKeptBy c time w o             o is a symmetry operation of matrix w and of a wanted sign
--   IsFoundAt c time ws o n         so it is for w the matrix number n of ws
--   IsFoundBelow c time ws k o      so it is for one of the first k matrices
use Rattle.std.specs.Prelude.{◌≡◌, ℕ, Bool, List, slice_get, Some}
use Rattle.lists.specs.Any.{AnyBelow}
use Rattle.crystal_spec.specs.declared.Sign.{Sign}
use Rattle.crystal_spec.specs.Matrices.{Matrix, Triple, image, difference}
use Rattle.crystal_spec.specs.Crystals.{Atom, Structure, Keeps}
use Rattle.crystal_spec.specs.Operations.{Operation, IsSymmetryOperation, sign_factor}
use Rattle.positions.specs.Positions.{IsModulo}
use Rattle.mag_ops.specs.Groups.{IsWanted}

pub record IsKeptAs (c : Structure) (w : Matrix) (t : Triple) (sign : Sign) (o : Operation) : Type 0 where
  pub same_matrix : o.matrix ≡ w
  pub same_translation : o.translation ≡ t
  pub same_sign : o.sign ≡ sign
  pub keeps : Keeps c w t (sign_factor sign)

pub record IsOnto (c : Structure) (time : Bool) (w : Matrix) (from onto : Atom) (o : Operation) : Type 0 where
  pub same_matrix : o.matrix ≡ w
  pub translation : IsModulo c.n (difference onto.position (image w from.position)) o.translation
  pub wanted : IsWanted time o.sign
  pub keeps : Keeps c w o.translation (sign_factor o.sign)

pub record IsFromAtom (c : Structure) (time : Bool) (w : Matrix) (from : Atom) (o : Operation) (number : ℕ) : Type 0 where
  pub atom : Atom
  pub is_atom : slice_get c.atoms number ≡ Some atom
  pub same_species : atom.species ≡ from.species
  pub onto : IsOnto c time w from atom o

abbrev pub IsFromAtoms : Structure → Bool → Matrix → Atom → ℕ → Operation → Type 0
IsFromAtoms c time w from k o = AnyBelow k (IsFromAtom c time w from o)

pub record IsKeptBy (c : Structure) (time : Bool) (w : Matrix) (o : Operation) : Type 0 where
  pub same_matrix : o.matrix ≡ w
  pub wanted : IsWanted time o.sign
  pub symmetry : IsSymmetryOperation c o

pub record IsFoundAt (c : Structure) (time : Bool) (ws : List Matrix) (o : Operation) (number : ℕ) : Type 0 where
  pub is_matrix : slice_get ws number ≡ Some o.matrix
  pub wanted : IsWanted time o.sign
  pub symmetry : IsSymmetryOperation c o

abbrev pub IsFoundBelow : Structure → Bool → List Matrix → ℕ → Operation → Type 0
IsFoundBelow c time ws k o = AnyBelow k (IsFoundAt c time ws o)
