-- What reading to the end says.
--   ReadsAll      all bytes up to the end of input, or why not
--   GivesUp       the cause of each refusal, and how many bytes were taken before it
--   TakesAtMost   however it ended, no more than so many bytes were taken
--   StopsAtEnd    however it ended, nothing was read behind the end
-- Our own.
use Rattle.std.specs.Prelude.{◌≡◌, ℕ, ◌+◌, ◌≤◌, true, false, List, length, MatchResult}
use Rattle.std.specs.declared.option.Option.{Option}
use Rattle.std.specs.declared.result.Result.{Result}
use Rattle.std.specs.Io.KnownBytes.{Consumes, IsAtEnd}
use Rattle.io_edge.specs.Causes.{Rose}
use Rattle.io_edge.specs.States.{SourceState}
use Rattle.io_edge.specs.declared.source.InFault.{InFault}
use Rattle.io_edge.specs.declared.source.InFault.TheVariants.{ReadFault, TooLong, Memory}

-- Why reading gave up once it had taken these bytes: the source failed within the limit, or one byte past the limit came
-- before an end or a fault, and in both cases no end is seen; or memory was wanted. Never is more than that taken.
abbrev pub GivesUp : Option ℕ → ℕ → SourceState → SourceState → List ℕ → InFault → Type 0
GivesUp highest limit before after taken ReadFault = (length taken ≤ limit) × Rose highest before.faults after.faults × (after.end_is_seen ≡ false)
GivesUp highest limit before after taken TooLong = (length taken ≡ limit + 1) × (after.end_is_seen ≡ false)
GivesUp highest limit before after taken Memory = length taken ≤ limit + 1

-- At Ok the result is all that was left, within the limit, nothing is left now, and the end is seen. A refusal took some
-- of the first bytes that were left, and has its cause. The count of faults has this highest number.
abbrev pub ReadsAll : Option ℕ → ℕ → SourceState → SourceState → Result (List ℕ) InFault → Type 0
ReadsAll highest limit before after result = MatchResult result
    (λ bytes. Consumes before.left after.left bytes × IsAtEnd after.left × (length bytes ≤ limit) × (after.end_is_seen ≡ true))
    (λ fault. (taken : List ℕ) × Consumes before.left after.left taken × GivesUp highest limit before after taken fault)

-- what was taken of the bytes left before, no more than so many, leaves those left after
pub record TakesAtMost (most : ℕ) (before after : SourceState) : Type 0 where
  pub taken : List ℕ
  pub consumed : Consumes before.left after.left taken
  pub few : length taken ≤ most

-- where no end was seen before, no read came right behind one that saw it
abbrev pub StopsAtEnd : SourceState → SourceState → Type 0
StopsAtEnd before after = before.end_is_seen ≡ false → after.read_past_end ≡ before.read_past_end
