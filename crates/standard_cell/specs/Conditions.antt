-- What is asked of the map into a standard cell.
--   CanTake q p   Q has entries of size up to 5184 and a determinant from 1 to 1728; p is within the cell
use Rattle.std.specs.Prelude.{pos, ◌≤ℤ◌}
use Rattle.ring.specs.Size.{AtMost}
use Rattle.matrix3.specs.Matrices.{EachEntry}
use Rattle.crystal_spec.specs.Matrices.{Matrix, determinant}
use Rattle.match_spec.specs.Points.{Point, IsInCell}

-- each coordinate of p is at least 0 and below 1
pub record CanTake (q : Matrix) (p : Point) : Type 0 where
  pub entries : EachEntry (AtMost 5184) q
  pub at_least : pos 1 ≤ℤ determinant q
  pub at_most : determinant q ≤ℤ pos 1728
  pub in_cell : IsInCell p
