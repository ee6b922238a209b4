-- The units of a standard cell, and whether a cell can hold it.
--   AreUnits c q p u   n, k, the metric tensor and the divisor of the places are those of the standard cell
--   HasRoom c q u      a cell can hold the standard cell
use Rattle.std.specs.Prelude.{◌≡◌, pos, ◌*◌, ◌^◌, ◌≤◌, ◌*ℤ◌, ◌≤ℤ◌, length, unsigned_abs}
use Rattle.lists.specs.Increasing.{IsMember}
use Rattle.crystal_spec.specs.Matrices.{Matrix, image, determinant, adjugate}
use Rattle.crystal_spec.specs.Moments.{turn_matrix, divisor}
use Rattle.crystal_spec.specs.Crystals.{Atom, Structure}
use Rattle.crystal.specs.declared.limits.TheConstants.{MOST_ATOMS}
use Rattle.crystal.specs.Views.{metric_of}
use Rattle.matrix3.specs.Bounds.{EntriesAtMost, CoordinatesAtMost}
use Rattle.basis_spec.specs.Metrics.{metric_in}
use Rattle.match_spec.specs.Points.{Point}
use Rattle.standard_cell.specs.PlaceDivisors.{full, IsPlaceDivisor}
use Rattle.standard_cell.specs.declared.limits.Units.{Units}

-- e is the divisor times n
pub record AreUnits (c : Structure) (q : Matrix) (p : Point) (u : Units) : Type 0 where
  pub divisor_is : IsPlaceDivisor c q p c.atoms u.divisor
  pub n_is : full q p (pos c.n) ≡ u.divisor *ℤ u.n
  pub k_is : u.k ≡ divisor c.kind (unsigned_abs (determinant q)) * c.k
  pub metric_is : metric_of u.metric ≡ metric_in q c.metric

-- at most MOST_ATOMS atoms, n and k up to 10^6, entries of the metric tensor up to 10^16 and moments up to 2 · 10^27
pub record HasRoom (c : Structure) (q : Matrix) (u : Units) : Type 0 where
  pub atoms : unsigned_abs (determinant q) * length c.atoms ≤ MOST_ATOMS
  pub n : u.n ≤ℤ pos (10 ^ 6)
  pub k : u.k ≤ 10 ^ 6
  pub metric : EntriesAtMost (10 ^ 16) (metric_of u.metric)
  pub moments : (a : Atom) → IsMember a c.atoms → CoordinatesAtMost (2 * 10 ^ 27) (image (turn_matrix c.kind (adjugate q)) a.moment)
