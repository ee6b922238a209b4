-- Sizes of what is computed of a frame. The largest numbers are adj(Q) (d Y - n u), up to 3.3 · 10^26, and Q X, up to 3.2 · 10^25.
use Rattle.std.proofs.Common.{ℕ, ◌+◌, ◌*◌, ◌^◌, ℤ, pos, negsuc, ◌<ℤ◌, ◌≤ℤ◌, sym, subst, arith, lit≤}
use Rattle.std.proofs.lemmas.Int.{ints}
use Rattle.ring.specs.Size.{AtMost}
use Rattle.ring.proofs.Sizes.{at_most_mul}
use Rattle.matrix3.specs.Matrices.{EachEntry, EachCoordinate}
use Rattle.matrix3.proofs.FitsBySize.{image_size, adjugate_size, grown, coordinates_grown, entries_grown, multiple_size, sum_size, difference_size}
use Rattle.crystal_spec.specs.Matrices.{Triple, image, multiple, difference}
use Rattle.crystal_spec.specs.Operations.{IsWithinCell}
use Rattle.match_spec.specs.Points.{point, IsInCell}
use Rattle.group_match.proofs.Sized.{cell_size, natural_size}
use Rattle.standard_cell.specs.declared.frame.Frame.{Frame}
use Rattle.standard_cell.specs.Frames.{IsFrame, step_of, full_of, goal_of, point_at}
use Rattle.standard_cell.specs.Sweeps.{IsInSpace}

-- a natural number below a bound is small, and so is one from 0 and below a small integer
under_size : (n : ℕ) (z : ℤ) → pos 0 ≤ℤ z → z <ℤ pos n → AtMost n z
under_size n (pos m) l h = record { size = omega (arith, ints, h) }
under_size n (negsuc m) l h = absurd l.le

below_size : {n : ℕ} {d z : ℤ} → pos 0 ≤ℤ z → z <ℤ d → AtMost n d → AtMost n z
below_size {n} {d} {z} l h a = by d z l h a
  where
    by : (d z : ℤ) → pos 0 ≤ℤ z → z <ℤ d → AtMost n d → AtMost n z
    by (pos k) (pos m) l h a = let s = a.size in record { size = omega (arith, ints, h, s) }
    by (negsuc k) (pos m) l h a = absurd (omega (arith, ints, h))
    by d (negsuc m) l h a = absurd l.le

pub step_small : (f : Frame) → IsFrame f → AtMost (10 ^ 18) (step_of f)
step_small f h = at_most_mul (natural_size (10 ^ 6) f.n h.n_at_most) h.parts_at_most

pub full_small : (f : Frame) → IsFrame f → AtMost (2 * 10 ^ 21) (full_of f)
full_small f h = grown (lit≤ tt) (at_most_mul (natural_size 1728 f.index h.index_at_most) (step_small f h))

-- d Y and n u
pub place_part : (f : Frame) → IsFrame f → (y : Triple) → IsWithinCell f.n y → EachCoordinate (AtMost (10 ^ 18)) (multiple f.parts y)
place_part f h y w = coordinates_grown (lit≤ tt) (multiple_size h.parts_at_most (coordinates_grown h.n_at_most (cell_size f.n y w)))

pub shift_part : (f : Frame) → IsFrame f → EachCoordinate (AtMost (10 ^ 18)) (multiple (pos f.n) f.shift)
shift_part f h = coordinates_grown (lit≤ tt) (multiple_size (natural_size (10 ^ 6) f.n h.n_at_most) h.shift)

pub goal_small : (f : Frame) → IsFrame f → (y : Triple) → IsWithinCell f.n y → EachCoordinate (AtMost (2 * 10 ^ 18)) (goal_of f y)
goal_small f h y w = coordinates_grown (lit≤ tt) (difference_size (place_part f h y w) (shift_part f h))

-- adj(Q)
pub back_small : (f : Frame) → IsFrame f → EachEntry (AtMost 60000000) f.back
back_small f h = subst (EachEntry (AtMost 60000000)) (sym h.back) (entries_grown (lit≤ tt) (adjugate_size f.turn h.turn))

-- n d times a column of adj(Q), and n d times a triple of the space
pub unit_column : (f : Frame) → IsFrame f → (t : Triple) → EachCoordinate (AtMost 60000000) t → EachCoordinate (AtMost (10 ^ 36)) (multiple (step_of f) t)
unit_column f h t s = coordinates_grown (lit≤ tt) (multiple_size (step_small f h) s)

pub space_small : (f : Frame) → IsFrame f → (t : Triple) → IsInSpace f.index f.index t → EachCoordinate (AtMost 1728) t
space_small f h t s = record {
  x = grown h.index_at_most (under_size f.index t.x s.x.low s.x.high);
  y = grown h.index_at_most (under_size f.index t.y s.y.low s.y.high);
  z = grown h.index_at_most (under_size f.index t.z s.z.low s.z.high);
}

pub cells_small : (f : Frame) → IsFrame f → (t : Triple) → IsInSpace f.index f.index t → EachCoordinate (AtMost (1728 * 10 ^ 18)) (multiple (step_of f) t)
cells_small f h t s = coordinates_grown (lit≤ tt) (multiple_size (step_small f h) (space_small f h t s))

start_small : (f : Frame) → IsFrame f → (r : Triple) → IsInCell (point r (step_of f)) → EachCoordinate (AtMost (10 ^ 18)) r
start_small f h r c = record { x = below_size c.x_low c.x_high (step_small f h); y = below_size c.y_low c.y_high (step_small f h); z = below_size c.z_low c.z_high (step_small f h) }

pub point_small : (f : Frame) → IsFrame f → (r t : Triple) → IsInCell (point r (step_of f)) → IsInSpace f.index f.index t → EachCoordinate (AtMost (2 * 10 ^ 21)) (point_at f r t)
point_small f h r t c s = coordinates_grown (lit≤ tt) (sum_size (start_small f h r c) (cells_small f h t s))

-- Q X and h w
pub image_part : (f : Frame) → IsFrame f → (x : Triple) → EachCoordinate (AtMost (2 * 10 ^ 21)) x → EachCoordinate (AtMost (5184 * (2 * 10 ^ 21) + 5184 * (2 * 10 ^ 21) + 5184 * (2 * 10 ^ 21))) (image f.turn x)
image_part f h x s = image_size f.turn x h.turn s

pub index_part : (f : Frame) → IsFrame f → (w : Triple) → EachCoordinate (AtMost (2 * 10 ^ 18)) w → EachCoordinate (AtMost (1728 * (2 * 10 ^ 18))) (multiple (pos f.index) w)
index_part f h w s = multiple_size (natural_size 1728 f.index h.index_at_most) s

pub rest_small : (f : Frame) → IsFrame f → (w x : Triple) → EachCoordinate (AtMost (2 * 10 ^ 18)) w → EachCoordinate (AtMost (2 * 10 ^ 21)) x → EachCoordinate (AtMost (10 ^ 36)) (difference (image f.turn x) (multiple (pos f.index) w))
rest_small f h w x s t = coordinates_grown (lit≤ tt) (difference_size (image_part f h x t) (index_part f h w s))
