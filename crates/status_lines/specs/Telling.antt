-- What the error stream gets.
--   Tells highest before after line   the line went out, or a front part of it where the sink failed
use Rattle.std.specs.Prelude.{◌≡◌, ◌⊎◌, ℕ, true, List, [], ◌++◌}
use Rattle.std.specs.declared.option.Option.{Option}
use Rattle.std.specs.Io.KnownBytes.{Appends}
use Rattle.io_edge.specs.Causes.{Rose}
use Rattle.io_edge.specs.States.{SinkState}

-- A front part of the line was appended: all of it, unless the last write failed and the sink's count of faults, which has this
-- highest number, rose. So no part comes behind one that was left out.
pub record Tells (highest : Option ℕ) (before after : SinkState) (line : List ℕ) : Type 0 where
  pub front : List ℕ
  pub rest : List ℕ
  pub are : line ≡ front ++ rest
  pub written : Appends before.held after.held front
  pub whole : (rest ≡ []) ⊎ ((after.last_failed ≡ true) × Rose highest before.faults after.faults)
