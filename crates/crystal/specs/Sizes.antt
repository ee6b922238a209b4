-- Sizes of what a cell holds.
--   HasMomentsAtMost bound c   the moments of the atoms have coordinates of size at most this
--   HasSizesOfRead c           the sizes that every cell has which was read
use Rattle.std.specs.Prelude.{ℕ, pos, ◌^◌, ◌≤ℤ◌}
use Rattle.lists.specs.Increasing.{IsMember}
use Rattle.crystal_spec.specs.Crystals.{Atom, Structure}
use Rattle.matrix3.specs.Bounds.{EntriesAtMost, CoordinatesAtMost}

-- the moments of the atoms, in units of 1/k, have coordinates of at most this size
abbrev pub HasMomentsAtMost : ℕ → Structure → Type 0
HasMomentsAtMost bound c = (a : Atom) → IsMember a c.atoms → CoordinatesAtMost bound a.moment

-- the scale, the entries of the metric tensor and the moments have size at most 10^9
pub record HasSizesOfRead (c : Structure) : Type 0 where
  pub scale : c.scale ≤ℤ pos (10 ^ 9)
  pub metric : EntriesAtMost (10 ^ 9) c.metric
  pub moments : HasMomentsAtMost (10 ^ 9) c
