-- Sizes of translation parts and of natural numbers.
use Rattle.std.proofs.Common.{ℕ, ◌≤◌, ℤ, pos, negsuc, ◌≤ℤ◌, ◌<ℤ◌, arith}
use Rattle.std.proofs.lemmas.Int.{ints}
use Rattle.ring.specs.Size.{AtMost}
use Rattle.matrix3.specs.Matrices.{EachCoordinate}
use Rattle.crystal_spec.specs.Matrices.{Triple}
use Rattle.crystal_spec.specs.Operations.{IsWithinCell}

within_size : (n : ℕ) (z : ℤ) → pos 0 ≤ℤ z → z <ℤ pos n → AtMost n z
within_size n (pos m) l h = record { size = omega (arith, ints, h) }
within_size n (negsuc m) l h = absurd l.le

-- a translation part is at most n
pub cell_size : (n : ℕ) (t : Triple) → IsWithinCell n t → EachCoordinate (AtMost n) t
cell_size n t w = record { x = within_size n t.x w.x.0 w.x.1; y = within_size n t.y w.y.0 w.y.1; z = within_size n t.z w.z.0 w.z.1 }

-- a natural number
pub natural_size : (m n : ℕ) → n ≤ m → AtMost m (pos n)
natural_size m n h = record { size = omega (arith, ints, h) }
