-- Stretches of lists, from an index up to another, for the private functions. No public contract cites these words.
--   NoneBetween xs ys zs x y z a b   no index from a up to b agrees with the key
--   SomeBetween xs ys zs x y z a b   an index from a up to b agrees with the key
--   BelowFrom n vs a                 the entries from the index a on are below n
--   ShiftsBetween old new t n a b    new is old with (v + t) mod n in place of each entry v from a up to b
use Rattle.std.specs.Prelude.{◌≡◌, ℕ, ◌+◌, ◌%◌, ◌<◌, ◌≤◌, List, length, slice_index}
use Rattle.lane_find.specs.Agreement.{AgreesAt}

abbrev pub NoneBetween : List ℕ → List ℕ → List ℕ → ℕ → ℕ → ℕ → ℕ → ℕ → Type 0
NoneBetween xs ys zs x y z a b = (i : ℕ) → a ≤ i → i < b → ¬ AgreesAt xs ys zs x y z i

pub record SomeBetween (xs ys zs : List ℕ) (x y z a b : ℕ) : Type 0 where
  pub index : ℕ
  pub from : a ≤ index
  pub below : index < b
  pub agrees : AgreesAt xs ys zs x y z index

abbrev pub BelowFrom : ℕ → List ℕ → ℕ → Type 0
BelowFrom n vs a = (i : ℕ) → a ≤ i → i < length vs → slice_index vs i < n

pub record ShiftsBetween (old new : List ℕ) (t n a b : ℕ) : Type 0 where
  pub same_length : length new ≡ length old
  pub inside : (i : ℕ) → a ≤ i → i < b → slice_index new i ≡ (slice_index old i + t) % n
  pub before : (i : ℕ) → i < a → slice_index new i ≡ slice_index old i
  pub behind : (i : ℕ) → b ≤ i → slice_index new i ≡ slice_index old i
