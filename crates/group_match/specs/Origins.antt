-- The least balanced origin of a map, among the k³.
--   IsSized n x               translation parts within the cell, and small matrix entries
--   AreSized n xs             those of each of the list
--   IsStart q n ds r          r / 12 n is the balance of the pairs ds, in the cell
--   HasPlace q n cs ds f      the fractions f are the first of the k³ places at which the excess of each of cs is whole
--   HasNoPlace q n cs ds      there is none
use Rattle.std.specs.Prelude.{ℕ, List, length, ℤ, pos, ◌*ℤ◌}
use Rattle.ring.specs.Size.{AtMost}
use Rattle.numbers.specs.Fraction.{Fraction}
use Rattle.lists.specs.Increasing.{IsMember}
use Rattle.matrix3.specs.declared.vector.Vec3.{Vec3}
use Rattle.matrix3.specs.Matrices.{EachEntry, coordinates}
use Rattle.crystal_spec.specs.Matrices.{Triple, Matrix, difference}
use Rattle.crystal_spec.specs.Operations.{IsWithinCell}
use Rattle.positions.specs.Positions.{triple_of}
use Rattle.match_spec.specs.Points.{point, IsPoint, IsInCell, IsWhole, Equal}
use Rattle.match_spec.specs.Fractions.{point_of}
use Rattle.match_spec.specs.Maps.{Pair}
use Rattle.match_spec.specs.FirstMap.{IsBefore}
use Rattle.match_spec.specs.BalancedPoints.{origin_at, IsPlace}
use Rattle.match_spec.specs.Searching.{gap_sum, AllWhole}
use Rattle.group_match.specs.declared.pair.Matched.{Matched}

-- translation parts within the cell, and small entries
pub record IsSized (n : ℕ) (x : Matched) : Type 0 where
  pub source : IsWithinCell 12 (triple_of x.source.shift)
  pub member : IsWithinCell n (triple_of x.member.shift)
  pub matrix : EachEntry (AtMost 150000000) x.member.w

-- those of each of the list
abbrev pub AreSized : ℕ → List Matched → Type 0
AreSized n xs = (x : Matched) → IsMember x xs → IsSized n x

-- r / 12 n is the balance, in the cell
pub record IsStart (q : Matrix) (n : ℤ) (ds : List Pair) (r : Triple) : Type 0 where
  pub in_cell : IsInCell (point r (n *ℤ pos 12))
  pub whole : IsWhole (n *ℤ pos 12) (difference (gap_sum q n ds) r)

-- the first of the places (r / 12 n + z) / k at which the excess of each pair is whole
pub record HasPlace (q : Matrix) (n : ℤ) (cs ds : List Pair) (f : Vec3 Fraction) : Type 0 where
  pub start : Triple
  pub is_start : IsStart q n ds start
  pub z : Triple
  pub is_place : IsPlace (pos (length ds)) z
  pub whole : AllWhole q n start (pos (length ds)) cs z
  pub earlier : (y : Triple) → IsPlace (pos (length ds)) y → IsBefore (coordinates y) (coordinates z) → ¬ (AllWhole q n start (pos (length ds)) cs y)
  pub is_point : IsPoint (point_of f)
  pub same : Equal (origin_at (point start (n *ℤ pos 12)) (pos (length ds)) z) (point_of f)

-- at none of them
pub record HasNoPlace (q : Matrix) (n : ℤ) (cs ds : List Pair) : Type 0 where
  pub start : Triple
  pub is_start : IsStart q n ds start
  pub none : (y : Triple) → IsPlace (pos (length ds)) y → ¬ (AllWhole q n start (pos (length ds)) cs y)
