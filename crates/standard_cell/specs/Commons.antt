-- Greatest common divisors of integers, of which the first is positive.
--   IsCommon g x r       r divides g and x; and where k divides f g and f x, it divides f r
--   IsCommonWith g v r   the same for g and the three coordinates of v
use Rattle.std.specs.Prelude.{ℤ, pos, ◌*ℤ◌, ◌<ℤ◌}
use Rattle.crystal_spec.specs.Matrices.{Triple, multiple}
use Rattle.match_spec.specs.Points.{IsWhole}
use Rattle.standard_cell.specs.PlaceDivisors.{IsMultiple}

-- the greatest common divisor, also of all multiples by one factor
pub record IsCommon (g x r : ℤ) : Type 0 where
  pub positive : pos 0 <ℤ r
  pub of_left : IsMultiple r g
  pub of_right : IsMultiple r x
  pub greatest : (k f : ℤ) → pos 0 <ℤ k → IsMultiple k (f *ℤ g) → IsMultiple k (f *ℤ x) → IsMultiple k (f *ℤ r)

-- that of a number and three others
pub record IsCommonWith (g : ℤ) (v : Triple) (r : ℤ) : Type 0 where
  pub positive : pos 0 <ℤ r
  pub of_left : IsMultiple r g
  pub of_right : IsWhole r v
  pub greatest : (k f : ℤ) → pos 0 <ℤ k → IsMultiple k (f *ℤ g) → IsWhole k (multiple f v) → IsMultiple k (f *ℤ r)
