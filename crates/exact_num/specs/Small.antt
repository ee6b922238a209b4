-- The fractions that the code has.
--   IsSmall p    numerator of size up to 10^24, denominator of size up to 10^12
use Rattle.std.specs.Prelude.{◌^◌}
use Rattle.ring.specs.Size.{AtMost}
use Rattle.numbers.specs.Fraction.{Fraction}

-- the numerator has a size of at most 10^24, and the denominator one of at most 10^12
pub record IsSmall (p : Fraction) : Type 0 where
  pub upper : AtMost (10 ^ 24) p.numerator
  pub lower : AtMost (10 ^ 12) p.denominator
