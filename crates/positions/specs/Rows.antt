-- Matrices of integers with their rows modulo n.
--   ModularMatrix           a matrix of integers beside the modulus n of positions
--   dot r p                 the sum of the products of three numbers with three
--   IsRowModulo n a b c r   r has the residues of a, b and c modulo n
--   IsRowBelow b r          the three numbers of r are below b
--   HoldsRows n w x y z     x, y and z are the rows of w modulo n, with n from 1 to 10^6
use Rattle.std.specs.Prelude.{◌≡◌, ◌+◌, ◌*◌, ◌<◌, ◌≤◌, ◌^◌, ℕ, ℤ, pos, List, slice_index}
use Rattle.std.specs.Int.{int_rem_euclid}
use Rattle.crystal_spec.specs.Matrices.{Matrix}

-- a matrix that acts on positions in units of one part of so many
pub record ModularMatrix : Type 0 where
  pub modulus : ℕ
  pub matrix : Matrix

-- the sum of three products
abbrev pub dot : List ℕ → List ℕ → ℕ
dot r p = slice_index r 0 * slice_index p 0 + slice_index r 1 * slice_index p 1 + slice_index r 2 * slice_index p 2

-- the residues of a row
pub record IsRowModulo (n : ℕ) (a b c : ℤ) (r : List ℕ) : Type 0 where
  pub first : pos (slice_index r 0) ≡ int_rem_euclid a (pos n)
  pub second : pos (slice_index r 1) ≡ int_rem_euclid b (pos n)
  pub third : pos (slice_index r 2) ≡ int_rem_euclid c (pos n)

-- three numbers below a bound
pub record IsRowBelow (bound : ℕ) (r : List ℕ) : Type 0 where
  pub first : slice_index r 0 < bound
  pub second : slice_index r 1 < bound
  pub third : slice_index r 2 < bound

-- the rows modulo n
pub record HoldsRows (n : ℕ) (w : Matrix) (x y z : List ℕ) : Type 0 where
  pub at_least : 1 ≤ n
  pub at_most : n ≤ 10 ^ 6
  pub first : IsRowModulo n w.a11 w.a12 w.a13 x
  pub second : IsRowModulo n w.a21 w.a22 w.a23 y
  pub third : IsRowModulo n w.a31 w.a32 w.a33 z
