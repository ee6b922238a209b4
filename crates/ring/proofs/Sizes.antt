-- Sizes of sums and products, and that what is small is held by an i128.
--   at_most_mul, at_most_add, at_most_sub, at_most_neg    sizes multiply and add
--   weaken n h tt    a larger bound, at numerals
--   fits h tt        a size below 2^127 is held by an i128, at a numeral
use Rattle.std.proofs.Common.{◌≡◌, ℕ, ◌+◌, ◌*◌, ◌^◌, ◌≤◌, ◌<◌, T, ltb, ltb→lt, ℤ, pos, negsuc, ◌+ℤ◌, ◌-ℤ◌, ◌*ℤ◌, neg_ℤ, unsigned_abs, SFits, to_z, of_z, to_z-of_z, arith, mul-le-mul}
use mir.Syntax.{w128}
use Rattle.std.proofs.lemmas.Int.{ints, unsigned_abs-mul, fits_signed_from_abs}
use Rattle.ring.specs.Size.{AtMost}

-- the size of a product is at most the product of the sizes
pub at_most_mul : {a b : ℤ} {m n : ℕ} → AtMost m a → AtMost n b → AtMost (m * n) (a *ℤ b)
at_most_mul {a} {b} {m} {n} h k = record { size = omega (arith, unsigned_abs-mul a b, mul-le-mul h.size k.size) }

-- the size of a sum is at most the sum of the sizes
pub at_most_add : {a b : ℤ} {m n : ℕ} → AtMost m a → AtMost n b → AtMost (m + n) (a +ℤ b)
at_most_add h k = record { size = omega (arith, ints, h.size, k.size) }

-- and so is that of a difference
pub at_most_sub : {a b : ℤ} {m n : ℕ} → AtMost m a → AtMost n b → AtMost (m + n) (a -ℤ b)
at_most_sub h k = record { size = omega (arith, ints, h.size, k.size) }

-- the opposite has the same size
pub at_most_neg : {a : ℤ} {m : ℕ} → AtMost m a → AtMost m (neg_ℤ a)
at_most_neg h = record { size = omega (arith, ints, h.size) }

-- what is at most n is held by an i128 where n is below 2^127; at a numeral n `fits h tt`
pub fits : {z : ℤ} {n : ℕ} → AtMost n z → T (ltb n (2 ^ 127)) → SFits w128 z
fits {z} {n} h t = fits_signed_from_abs w128 z (omega (arith, h.size, ltb→lt n (2 ^ 127) t))

-- what is at most m is at most n where m is; at numerals `weaken n h tt`
pub weaken : {z : ℤ} {m : ℕ} (n : ℕ) → AtMost m z → T (ltb m (n + 1)) → AtMost n z
weaken {z} {m} n h t = record { size = omega (arith, h.size, ltb→lt m (n + 1) t) }
