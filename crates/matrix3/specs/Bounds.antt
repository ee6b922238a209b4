-- How large the entries of matrices and the coordinates of columns of integers are.
--   EntriesAtMost b a        each entry of a has at most the size b
--   CoordinatesAtMost b v    each coordinate of v has at most the size b
use Rattle.std.specs.Prelude.{ℕ, ℤ}
use Rattle.ring.specs.Size.{AtMost}
use Rattle.matrix3.specs.declared.vector.Vec3.{Vec3}
use Rattle.matrix3.specs.declared.matrix.Mat3.{Mat3}
use Rattle.matrix3.specs.Matrices.{EachEntry, EachCoordinate}

-- each entry has at most this size
abbrev pub EntriesAtMost : ℕ → Mat3 ℤ → Type 0
EntriesAtMost bound w = EachEntry (AtMost bound) w

-- each coordinate has at most this size
abbrev pub CoordinatesAtMost : ℕ → Vec3 ℤ → Type 0
CoordinatesAtMost bound v = EachCoordinate (AtMost bound) v
