-- How large an integer is.
--   AtMost n z   z lies from -n to n
use Rattle.std.specs.Prelude.{ℕ, ◌≤◌, ℤ, unsigned_abs}

-- z lies from -n to n; a record, so that a proof finds n and z from the fact
pub record AtMost (n : ℕ) (z : ℤ) : Type 0 where
  pub size : unsigned_abs z ≤ n
