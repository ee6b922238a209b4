-- Atoms that are found by going through triples in order.
--   IsSweep P R block         block has, in increasing order, all b with P t b for some t of which R holds
--   IsAdded before after P R  such a block was added
--   IsUnder k z               z is from 0 and below k
--   IsOnLine a b k            the triples (a, b, z) with z below k
--   IsOnPlane h a k           the triples (a, y, z) with y below k and z below h
--   IsInSpace h k             the triples (x, y, z) with x below k and y and z below h
use Rattle.std.specs.Prelude.{◌≡◌, ℕ, ℤ, pos, ◌≤ℤ◌, ◌<ℤ◌, List, ◌++◌, map}
use Rattle.lists.specs.Increasing.{IsIncreasing, IsMember}
use Rattle.crystal_spec.specs.Matrices.{Triple}
use Rattle.crystal_spec.specs.Crystals.{Atom}
use Rattle.crystal.specs.declared.atom.Atom.{Atom as CodeAtom}
use Rattle.crystal.specs.Views.{atom_of}
use Rattle.standard_cell.specs.StandardCells.{compare_places}

-- all and only those
pub record IsSweep (P : Triple → Atom → Type 0) (R : Triple → Type 0) (block : List Atom) : Type 0 where
  pub increasing : IsIncreasing compare_places block
  pub into : (b : Atom) → IsMember b block → (t : Triple) × (R t × P t b)
  pub onto : (b : Atom) (t : Triple) → R t → P t b → IsMember b block

-- behind the atoms that were there
pub record IsAdded (before after : List CodeAtom) (P : Triple → Atom → Type 0) (R : Triple → Type 0) : Type 0 where
  pub block : List Atom
  pub is : map atom_of after ≡ map atom_of before ++ block
  pub sweep : IsSweep P R block

-- from 0 and below k
pub record IsUnder (k : ℕ) (z : ℤ) : Type 0 where
  pub low : pos 0 ≤ℤ z
  pub high : z <ℤ pos k

pub record IsOnLine (a b k : ℕ) (t : Triple) : Type 0 where
  pub x : t.x ≡ pos a
  pub y : t.y ≡ pos b
  pub z : IsUnder k t.z

pub record IsOnPlane (h a k : ℕ) (t : Triple) : Type 0 where
  pub x : t.x ≡ pos a
  pub y : IsUnder k t.y
  pub z : IsUnder h t.z

pub record IsInSpace (h k : ℕ) (t : Triple) : Type 0 where
  pub x : IsUnder k t.x
  pub y : IsUnder h t.y
  pub z : IsUnder h t.z
