-- Sizes of what is computed: matrices of entries -1, 0 and 1 leave the numbers far below the 10^36 of an integer.
--
-- A metric tensor up to 10^16 becomes one up to 9 · 10^16 in the other basis and 9 · 10^32 in its units; a moment up to
-- 2 · 10^27 has an image up to 6 · 10^27, and 6 · 10^33 in units of 1/(k k'). In common units a metric tensor has entries up
-- to 10^32, and scalar products of small columns up to 9 · 10^32.
use Rattle.std.proofs.Common.{ℕ, ◌*◌, ◌^◌, ◌≤◌, lit≤, ℤ, pos, ◌≤ℤ◌, ◌<ℤ◌, arith, mul-le-mul}
use Rattle.std.proofs.lemmas.Int.{ints}
use Rattle.crystal_spec.specs.Operations.{IsWithinCell}
use Rattle.ring.specs.Size.{AtMost}
use Rattle.crystal_spec.specs.Matrices.{Matrix, Triple, image}
use Rattle.matrix3.specs.Bounds.{EntriesAtMost, CoordinatesAtMost}
use Rattle.matrix3.proofs.FitsBySize.{image_size, coordinates_grown}

-- the image of a moment
pub moment_image : (l : Matrix) (m : Triple) → EntriesAtMost 1 l → CoordinatesAtMost (2 * 10 ^ 27) m → CoordinatesAtMost (10 ^ 28) (image l m)
moment_image l m h k = coordinates_grown {v = image l m} (lit≤ tt) (image_size l m h k)

-- translation parts within one cell, in steps
pub steps_small : (n m : ℕ) (t : Triple) → n ≤ 10 ^ 6 → m ≤ 10 ^ 6 → IsWithinCell (n * m) t → CoordinatesAtMost (10 ^ 14) t
steps_small n m t h k w = record { x = by t.x w.x.0 w.x.1; y = by t.y w.y.0 w.y.1; z = by t.z w.z.0 w.z.1 }
  where
    few : n * m ≤ 10 ^ 6 * 10 ^ 6
    few = mul-le-mul h k

    by : (z : ℤ) → pos 0 ≤ℤ z → z <ℤ pos (n * m) → AtMost (10 ^ 14) z
    by z low high = small (n * m) z few low high
      where
        small : (l : ℕ) (z : ℤ) → l ≤ 10 ^ 6 * 10 ^ 6 → pos 0 ≤ℤ z → z <ℤ pos l → AtMost (10 ^ 14) z
        small l z few low high = record { size = omega (arith, ints, few, low, high) }
