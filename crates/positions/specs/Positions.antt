-- Positions and translations, and whole cells. In units of 1/n.
--   triple x y z          the column of these coordinates
--   triple_of p           the column of the three numbers of a position or a translation
--   origin                the column of zeros
--   IsWholeCells n t      t is a multiple of n in each coordinate
--   modulo n p            p modulo n, from 0 to n - 1 in each coordinate
--   IsModulo n p q        q is p modulo n: it is within the cell, and p differs from it by whole cells
use Rattle.std.specs.Prelude.{◌≡◌, ℕ, ℤ, pos, List, slice_index}
use Rattle.std.specs.Int.{int_rem_euclid}
use Rattle.crystal_spec.specs.Matrices.{Triple, multiple, sum_of}
use Rattle.crystal_spec.specs.Operations.{IsWithinCell}

-- the column of these coordinates
abbrev pub triple : ℤ → ℤ → ℤ → Triple
triple x y z = record { x = x; y = y; z = z }

-- three natural numbers as a column of integers
abbrev pub triple_of : List ℕ → Triple
triple_of p = record { x = pos (slice_index p 0); y = pos (slice_index p 1); z = pos (slice_index p 2) }

-- the column of zeros
abbrev pub origin : Triple
origin = triple (pos 0) (pos 0) (pos 0)

-- t is so many whole cells
pub record IsWholeCells (n : ℕ) (t : Triple) : Type 0 where
  pub cells : Triple
  pub is : t ≡ multiple (pos n) cells

-- p modulo n in each coordinate
unfoldable pub modulo : ℕ → Triple → Triple
modulo n p = triple (int_rem_euclid p.x (pos n)) (int_rem_euclid p.y (pos n)) (int_rem_euclid p.z (pos n))

-- q is from 0 to n - 1 in each coordinate, and p is q and so many whole cells
pub record IsModulo (n : ℕ) (p q : Triple) : Type 0 where
  pub within : IsWithinCell n q
  pub cells : Triple
  pub same : p ≡ sum_of q (multiple (pos n) cells)
