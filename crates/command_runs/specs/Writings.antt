-- What the steps of a run come to: words of private clauses.
--   IsWritten highest before after report kept whole status   the report is out whole, as this status says, or cut
--   IsTold highest before after answer status   the status says what became of the answer
--   IsFinished highest before after result status   so it is, or memory was wanting for an answer
--   IsTakenUpTo most name before after          how much of the file of this name was taken at most
--   RefusesInput highest before after status    why the input gives no cell
--   IsTableOf before after name table           the file of this name spells the table
--   RefusesTable highest before after name status   why the file gives no table
--   IsCellOf before after name cell             the file of this name spells the cell
--   RefusesOther highest before after name status   why the file gives no cell
-- Our own.
use Rattle.std.specs.Prelude.{◌≡◌, ◌⊎◌, ℕ, ◌<◌, List, length, take}
use Rattle.std.specs.declared.option.Option.{Option}
use Rattle.std.specs.declared.result.Result.{Result}
use Rattle.std.specs.declared.result.Result.TheVariants.{Ok, Err}
use Rattle.std.specs.Io.KnownBytes.{Appends}
use Rattle.io_edge.specs.Causes.{Rose}
use Rattle.io_edge.specs.Shelves.{TakesAtMostOfFile}
use Rattle.io_edge.specs.States.{SinkState, SourceState, ShelfState}
use Rattle.crystal_spec.specs.Crystals.{Structure}
use Rattle.cell_text.specs.CellFile.{Spells}
use Rattle.hall_text.specs.declared.rows.Row.{Row}
use Rattle.hall_text.specs.Tables.{SpellsTable}
use Rattle.answers.specs.declared.answer.Answer.{Answer}
use Rattle.answers.specs.declared.answer.Answer.TheVariants as answers
use Rattle.report_basis.specs.declared.Kept.{Kept}
use Rattle.report_basis.specs.declared.Kept.TheVariants.{Back, Two}
use Rattle.run_status.specs.declared.status.Status.{Status}
use Rattle.run_status.specs.declared.status.Status.TheVariants.{Done, NoMatch, Different, NotAllowed, Usage, CellTooLong, CellRefused, NoSuchAtom, OtherTooLong, OtherRefused, SymbolRefused, TableRefused, TableTooLong, ReadFault, WriteFault, Memory, TooWide}
use Rattle.command_runs.specs.Outcomes.{BreaksRule, IsTooLong, FailsToRead, ReadsFile, IsTableFault, IsOtherFault, IsFileTooLong, FailsToReadFile}

-- the whole report was appended
pub record IsWhole (before after : SinkState) (report : List ℕ) (whole status : Status) : Type 0 where
  pub same : status ≡ whole
  pub appended : Appends before.held after.held report

-- so many first bytes were appended, fewer than all, and the sink failed
pub record IsCut (highest : Option ℕ) (before after : SinkState) (report : List ℕ) (kept : Kept) (status : Status) : Type 0 where
  pub written : ℕ
  pub same : status ≡ WriteFault written kept
  pub fewer : written < length report
  pub appended : Appends before.held after.held (take written report)
  pub cause : Rose highest before.faults after.faults

abbrev pub IsWritten : Option ℕ → SinkState → SinkState → List ℕ → Kept → Status → Status → Type 0
IsWritten highest before after report kept whole status = IsWhole before after report whole status ⊎ IsCut highest before after report kept status

abbrev pub IsTold : Option ℕ → SinkState → SinkState → Answer → Status → Type 0
IsTold highest before after (answers.Report report) status = IsWritten highest before after report.text report.kept (Done report.kept) status
IsTold highest before after (answers.NoMatch q text) status = IsWritten highest before after text (Back q) (NoMatch q) status
IsTold highest before after (answers.Different q q' text) status = IsWritten highest before after text (Two q q') (Different q q') status
IsTold highest before after (answers.SymbolRefused fault) status = status ≡ SymbolRefused fault
IsTold highest before after answers.NoSuchAtom status = status ≡ NoSuchAtom
IsTold highest before after (answers.NotAllowed q) status = status ≡ NotAllowed q
IsTold highest before after (answers.TooWide q) status = status ≡ TooWide q

abbrev pub IsFinished : {E : Type 0} → Option ℕ → SinkState → SinkState → Result Answer E → Status → Type 0
IsFinished highest before after (Ok answer) status = IsTold highest before after answer status
IsFinished highest before after (Err error) status = status ≡ Memory

-- nothing was read behind its end, and the files are as they were
pub record IsTakenUpTo (most : ℕ) (name : List ℕ) (before after : ShelfState) : Type 0 where
  pub few : TakesAtMostOfFile most name before after
  pub stops : after.picked.read_past_end ≡ before.picked.read_past_end
  pub files : after.files ≡ before.files

-- the input breaks a rule, is too long or fails, or memory was wanting
abbrev pub RefusesInput : Option ℕ → SourceState → SourceState → Status → Type 0
RefusesInput highest before after (Done basis) = ⊥
RefusesInput highest before after (NoMatch q) = ⊥
RefusesInput highest before after (Different q q') = ⊥
RefusesInput highest before after (NotAllowed q) = ⊥
RefusesInput highest before after (WriteFault written basis) = ⊥
RefusesInput highest before after (Usage fault) = ⊥
RefusesInput highest before after CellTooLong = IsTooLong before after
RefusesInput highest before after (CellRefused line fault) = BreaksRule before after line fault
RefusesInput highest before after NoSuchAtom = ⊥
RefusesInput highest before after OtherTooLong = ⊥
RefusesInput highest before after (OtherRefused line fault) = ⊥
RefusesInput highest before after (SymbolRefused fault) = ⊥
RefusesInput highest before after (TableRefused row fault) = ⊥
RefusesInput highest before after TableTooLong = ⊥
RefusesInput highest before after ReadFault = FailsToRead highest before after
RefusesInput highest before after Memory = Unit {0}
RefusesInput highest before after (TooWide q) = ⊥

-- the whole file of this name spells the table
pub record IsTableOf (before after : ShelfState) (name : List ℕ) (table : List Row) : Type 0 where
  pub text : List ℕ
  pub read : ReadsFile 1048576 before after name text
  pub spelled : SpellsTable text table

-- a row has a fault, the file is too long or can't be read, or memory was wanting
abbrev pub RefusesTable : Option ℕ → ShelfState → ShelfState → List ℕ → Status → Type 0
RefusesTable highest before after name (Done basis) = ⊥
RefusesTable highest before after name (NoMatch q) = ⊥
RefusesTable highest before after name (Different q q') = ⊥
RefusesTable highest before after name (NotAllowed q) = ⊥
RefusesTable highest before after name (WriteFault written basis) = ⊥
RefusesTable highest before after name (Usage fault) = ⊥
RefusesTable highest before after name CellTooLong = ⊥
RefusesTable highest before after name (CellRefused line fault) = ⊥
RefusesTable highest before after name NoSuchAtom = ⊥
RefusesTable highest before after name OtherTooLong = ⊥
RefusesTable highest before after name (OtherRefused line fault) = ⊥
RefusesTable highest before after name (SymbolRefused fault) = ⊥
RefusesTable highest before after name (TableRefused row fault) = IsTableFault before after name row fault
RefusesTable highest before after name TableTooLong = IsFileTooLong 1048576 before after name
RefusesTable highest before after name ReadFault = FailsToReadFile highest before after name
RefusesTable highest before after name Memory = Unit {0}
RefusesTable highest before after name (TooWide q) = ⊥

-- the whole file of this name spells the cell
pub record IsCellOf (before after : ShelfState) (name : List ℕ) (cell : Structure) : Type 0 where
  pub text : List ℕ
  pub read : ReadsFile 262144 before after name text
  pub spelled : Spells text cell

-- the file breaks a rule, is too long or can't be read, or memory was wanting
abbrev pub RefusesOther : Option ℕ → ShelfState → ShelfState → List ℕ → Status → Type 0
RefusesOther highest before after name (Done basis) = ⊥
RefusesOther highest before after name (NoMatch q) = ⊥
RefusesOther highest before after name (Different q q') = ⊥
RefusesOther highest before after name (NotAllowed q) = ⊥
RefusesOther highest before after name (WriteFault written basis) = ⊥
RefusesOther highest before after name (Usage fault) = ⊥
RefusesOther highest before after name CellTooLong = ⊥
RefusesOther highest before after name (CellRefused line fault) = ⊥
RefusesOther highest before after name NoSuchAtom = ⊥
RefusesOther highest before after name OtherTooLong = IsFileTooLong 262144 before after name
RefusesOther highest before after name (OtherRefused line fault) = IsOtherFault before after name line fault
RefusesOther highest before after name (SymbolRefused fault) = ⊥
RefusesOther highest before after name (TableRefused row fault) = ⊥
RefusesOther highest before after name TableTooLong = ⊥
RefusesOther highest before after name ReadFault = FailsToReadFile highest before after name
RefusesOther highest before after name Memory = Unit {0}
RefusesOther highest before after name (TooWide q) = ⊥
