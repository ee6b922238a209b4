-- How large the moment of a filling is.
--   IsSmall f                 its components are of size below 10^9
--   HasSmallMoment command    so it is in the command, where it has one
-- Our own.
use Rattle.std.specs.Prelude.{ℕ, ℤ, ◌<◌, ◌^◌, unsigned_abs}
use Rattle.command_words.specs.declared.filling.Filling.{Filling}
use Rattle.command_words.specs.declared.command.Command.{Command}
use Rattle.command_words.specs.declared.command.Command.TheVariants.{Symmetry, Primitive, Dataset, Orbits, Hall, Identify, Standard, Compare, Moments, Fill, Selfrun}

-- 9 digits
abbrev pub IsSmallComponent : ℤ → Type 0
IsSmallComponent z = unsigned_abs z < 10 ^ 9

pub record IsSmall (f : Filling) : Type 0 where
  pub a : IsSmallComponent f.a
  pub b : IsSmallComponent f.b
  pub c : IsSmallComponent f.c

abbrev pub HasSmallMoment : Command → Type 0
HasSmallMoment (Symmetry time skip take) = Unit {0}
HasSmallMoment Primitive = Unit {0}
HasSmallMoment Dataset = Unit {0}
HasSmallMoment Orbits = Unit {0}
HasSmallMoment Hall = Unit {0}
HasSmallMoment Identify = Unit {0}
HasSmallMoment Standard = Unit {0}
HasSmallMoment Compare = Unit {0}
HasSmallMoment Moments = Unit {0}
HasSmallMoment (Fill f) = IsSmall f
HasSmallMoment (Selfrun seed) = Unit {0}
