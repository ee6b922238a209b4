-- The first index at which three lists of one length agree with a key (x, y, z). Our own.
--   AgreesAt xs ys zs x y z i    the lists hold x, y and z at their index i
--   IsFirstAt xs ys zs x y z i   i is the least such index
--   IsAbsent xs ys zs x y z      there is no such index
use Rattle.std.specs.Prelude.{◌≡◌, ℕ, ◌<◌, List, length, slice_index}

pub record AgreesAt (xs ys zs : List ℕ) (x y z i : ℕ) : Type 0 where
  pub within : i < length xs
  pub first : slice_index xs i ≡ x
  pub second : slice_index ys i ≡ y
  pub third : slice_index zs i ≡ z

pub record IsFirstAt (xs ys zs : List ℕ) (x y z i : ℕ) : Type 0 where
  pub agrees : AgreesAt xs ys zs x y z i
  pub least : (j : ℕ) → j < i → ¬ AgreesAt xs ys zs x y z j

abbrev pub IsAbsent : List ℕ → List ℕ → List ℕ → ℕ → ℕ → ℕ → Type 0
IsAbsent xs ys zs x y z = (i : ℕ) → ¬ AgreesAt xs ys zs x y z i
