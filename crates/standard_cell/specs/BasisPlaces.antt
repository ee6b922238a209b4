-- Places of a crystal in another basis, with another origin. Q has the new basis vectors as columns, and the origin shift p
-- is in the old basis: coordinates x in the new basis are Q x + p in the old one. All of them are fractions.
--   carried q p x                 Q x + p
--   IsPlaceOf c q p a x           x is a place, within one cell of the new basis, of the atom a of the cell c
--   IsCommonDenominator c q p n   the places of all atoms of c are in units of 1/n
--   IsLeastDenominator c q p n    n is the least such number
use Rattle.std.specs.Prelude.{ℕ, pos, ◌≤◌, ◌<ℤ◌}
use Rattle.lists.specs.Increasing.{IsMember}
use Rattle.crystal_spec.specs.Matrices.{Triple, Matrix, multiple}
use Rattle.crystal_spec.specs.Crystals.{Atom, Structure}
use Rattle.crystal_spec.specs.Cells.{DiffersByCells}
use Rattle.match_spec.specs.Points.{Point, point, point_sum, turned, IsPoint, IsInCell, IsWhole, Equal}

-- Q x + p
abbrev pub carried : Matrix → Point → Point → Point
carried q p x = point_sum (turned q x) p

-- each coordinate of x is at least 0 and below 1, and Q x + p is the position of a, or differs from it by whole cells
pub record IsPlaceOf (c : Structure) (q : Matrix) (p : Point) (a : Atom) (x : Point) : Type 0 where
  pub is_point : IsPoint x
  pub in_cell : IsInCell x
  pub position : Triple
  pub away : DiffersByCells c.n position a.position
  pub is : Equal (carried q p x) (point position (pos c.n))

-- n times each coordinate of each place is an integer
abbrev pub IsCommonDenominator : Structure → Matrix → Point → ℕ → Type 0
IsCommonDenominator c q p n =
    (a : Atom) (x : Point) → IsMember a c.atoms → IsPlaceOf c q p a x → IsWhole x.denominator (multiple (pos n) x.numerators)

-- the least common denominator of all places
pub record IsLeastDenominator (c : Structure) (q : Matrix) (p : Point) (n : ℕ) : Type 0 where
  pub positive : pos 0 <ℤ pos n
  pub common : IsCommonDenominator c q p n
  pub least : (m : ℕ) → pos 0 <ℤ pos m → IsCommonDenominator c q p m → n ≤ m
