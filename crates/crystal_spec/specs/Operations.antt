-- Symmetry operations, their order, and the list of all operations of a crystal.
--   Operation                 a matrix, a translation part in units of 1/n, and a time sign
--   compare_of a b            the order of operations
--   IsSymmetryOperation c o   o keeps the crystal, and its translation part is within one cell
--   ListsAll c os             os is the strictly increasing list of exactly the symmetry operations of c
--   ListsAllSame c os         the same for those that do not reverse time
use Rattle.std.specs.Prelude.{◌≡◌, ◌↔◌, ℕ, ℤ, pos, negsuc, ◌≤ℤ◌, ◌<ℤ◌, List, [], ◌∷◌, ◌++◌}
use Rattle.std.specs.declared.cmp.Ordering.{Ordering}
use Rattle.std.specs.Ordering.{int_cmp}
use Rattle.std.specs.Cmp.Lexicographic.{slice_cmp}
use Rattle.lists.specs.Increasing.{IsIncreasing, IsMember}
use Rattle.matrix3.specs.Matrices.{entries, coordinates}
use Rattle.crystal_spec.specs.declared.Sign.{Sign}
use Rattle.crystal_spec.specs.declared.Sign.TheVariants.{Same, Reversed}
use Rattle.crystal_spec.specs.Matrices.{Triple, Matrix}
use Rattle.crystal_spec.specs.Crystals.{Structure, Keeps}

pub record Operation : Type 0 where
  pub matrix : Matrix
  pub translation : Triple
  pub sign : Sign

-- the sign as a factor, 1 or -1
abbrev pub sign_factor : Sign → ℤ
sign_factor Same = pos 1
sign_factor Reversed = negsuc 0

-- +1 before -1
abbrev pub sign_rank : Sign → ℤ
sign_rank Same = pos 0
sign_rank Reversed = pos 1

-- what operations are ordered by: the nine entries row by row, then the translation part, then the sign
abbrev pub order_key : Operation → List ℤ
order_key o = entries o.matrix ++ coordinates o.translation ++ sign_rank o.sign ∷ []

-- by the first of these numbers that differs
unfoldable pub compare_of : Operation → Operation → Ordering
compare_of a b = slice_cmp int_cmp (order_key a) (order_key b)

-- each coordinate is from 0 to n - 1
pub record IsWithinCell (n : ℕ) (t : Triple) : Type 0 where
  pub x : (pos 0 ≤ℤ t.x) × (t.x <ℤ pos n)
  pub y : (pos 0 ≤ℤ t.y) × (t.y <ℤ pos n)
  pub z : (pos 0 ≤ℤ t.z) × (t.z <ℤ pos n)

pub record IsSymmetryOperation (c : Structure) (o : Operation) : Type 0 where
  pub translation : IsWithinCell c.n o.translation
  pub keeps : Keeps c o.matrix o.translation (sign_factor o.sign)

pub record ListsAll (c : Structure) (os : List Operation) : Type 0 where
  pub increasing : IsIncreasing compare_of os
  pub exact : (o : Operation) → IsMember o os ↔ IsSymmetryOperation c o

pub record ListsAllSame (c : Structure) (os : List Operation) : Type 0 where
  pub increasing : IsIncreasing compare_of os
  pub exact : (o : Operation) → IsMember o os ↔ (IsSymmetryOperation c o × (o.sign ≡ Same))
