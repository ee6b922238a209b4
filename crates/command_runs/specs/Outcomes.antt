-- What each status of a run says of the words, the input, the store of files and the output.
--   Streams, streams       the input, the store and the output, before and after
--   LeavesInput s          the input is as it was
--   ReadWhole before after text    all of the input is this text, and its end was seen
--   SpellsInput before after cell  it is the text of the cell
--   ReadsFile limit before after name text   all of the file of this name, of at most so many bytes, is this text, and its
--                          end was seen
--   IsAskedOfCell ws       the words ask for a command that reads a cell
--   IsTableWanted ws before after   they ask for one that reads a table too, and the input spells a cell
--   IsOtherWanted ws before after   they ask for `compare`, and the input spells a cell
--   IsFileWanted ws before after    one of the two
--   limit_of command       how many bytes of the file a command reads at most
--   TakesFile ws before after   how much of the file of the second word was taken at most
--   IsReportOnInput request s kept bytes   the bytes are the report that the command asks for on the crystal of the input
--   IsReportOnTable request name s kept matched bytes   they are the report on it and on the table of this name
--   IsReportOnOther name s kept same bytes   they are that of `compare` on it and on the cell of this name
--   IsFillingOnInput f s kept bytes   they are that of `fill` on it and a moment for an atom
--   AnswersTo request word s kept matched bytes   the bytes are the report of the command: on that crystal, its file, this word, or its seed
--   Answers ws s kept matched bytes   the bytes are the report that the words ask for
--   WritesReport, WritesPart  the whole of that report was appended to the output, or a part of it
--   BreaksRule, IsTooLong, FailsToRead   the input breaks a rule of the cell file, is too long, or failed
--   IsTableFault, IsOtherFault, IsFileTooLong, FailsToReadFile   a row of the table has a fault, the other cell breaks a rule,
--                          the file is too long, or can't be read
--   HasTable name s cell table   the cell of the input, and the table of this name
--   AsksToFill ws s P      the words ask for `fill`, and P holds of the crystal of the input and the moment
--   RefusesTableReport ws s q   they ask for a report on a table, and there is none in the basis of q
--   MayWantMemory request word   memory may be wanting: for `hall` behind the judgement of the symbol
--   Outcome ws s status    what the status says, for these words and streams
-- Our own.
use Rattle.std.specs.Prelude.{◌≡◌, ◌⊎◌, ℕ, suc, ◌<◌, ◌≤◌, Bool, true, false, List, length, take}
use Rattle.std.specs.declared.option.Option.{Option}
use Rattle.std.specs.declared.option.Option.TheVariants.{Some, None}
use Rattle.std.specs.declared.result.Result.TheVariants.{Ok, Err}
use Rattle.std.specs.Io.KnownBytes.{Appends, Consumes, IsAtEnd}
use Rattle.io_edge.specs.Causes.{Rose}
use Rattle.io_edge.specs.Shelves.{IsMissing, Leaves, TakesAtMostOfFile}
use Rattle.io_edge.specs.States.{SourceState, SinkState, ShelfState}
use Rattle.crystal_spec.specs.Matrices.{Matrix}
use Rattle.crystal_spec.specs.Crystals.{Structure}
use Rattle.cell_text.specs.declared.fault.CellFault.{CellFault}
use Rattle.cell_text.specs.Rules.{cell_fault}
use Rattle.cell_text.specs.CellFile.{Spells}
use Rattle.hall_symbol.specs.Spelling.{symbol_fault}
use Rattle.hall_text.specs.declared.fault.RowFault.{RowFault}
use Rattle.hall_text.specs.declared.rows.Row.{Row}
use Rattle.hall_text.specs.Tables.{rows, SpellsTable, IsFirstFault}
use Rattle.command_words.specs.declared.command.Command.{Command}
use Rattle.command_words.specs.declared.command.Command.TheVariants.{Symmetry, Primitive, Dataset, Orbits, Hall, Identify, Standard, Compare, Moments, Fill, Selfrun}
use Rattle.command_words.specs.declared.filling.Filling.{Filling}
use Rattle.command_words.specs.Commands.{command, argument, ReadsCell, ReadsTable}
use Rattle.report_basis.specs.declared.Kept.{Kept}
use Rattle.report_basis.specs.declared.Kept.TheVariants.{Back, Two}
use Rattle.run_status.specs.declared.status.Status.{Status}
use Rattle.run_status.specs.declared.status.Status.TheVariants.{Done, NoMatch, Different, NotAllowed, Usage, CellTooLong, CellRefused, NoSuchAtom, OtherTooLong, OtherRefused, SymbolRefused, TableRefused, TableTooLong, ReadFault, WriteFault, Memory, TooWide}
use Rattle.answers.specs.Reports.{IsReport}
use Rattle.answers.specs.CompareReports.{IsCompareReport}
use Rattle.answers.specs.FillReports.{HasNoAtom, IsFillingReport, IsRefusedThere}
use Rattle.answers.specs.HallReports.{IsHallReport, IsSymbolFault}
use Rattle.answers.specs.SummaryReports.{IsSeedReport}
use Rattle.answers.specs.TableReports.{IsTableReport, IsRefusedTable}

-- What the input, the store of files and the output tell before and after, and the numbers at which their counts of faults stay.
pub record Streams : Type 0 where
  pub in_highest : Option ℕ
  pub input : SourceState
  pub input_after : SourceState
  pub shelf_highest : Option ℕ
  pub shelf : ShelfState
  pub shelf_after : ShelfState
  pub out_highest : Option ℕ
  pub output : SinkState
  pub output_after : SinkState

-- the input, the store and the output before and after, each behind the number at which its count of faults stays
abbrev pub streams : Option ℕ → SourceState → SourceState → Option ℕ → ShelfState → ShelfState → Option ℕ → SinkState → SinkState → Streams
streams in_highest input input_after shelf_highest shelf shelf_after out_highest output output_after = record {
  in_highest = in_highest;
  input = input;
  input_after = input_after;
  shelf_highest = shelf_highest;
  shelf = shelf;
  shelf_after = shelf_after;
  out_highest = out_highest;
  output = output;
  output_after = output_after;
}

-- nothing was taken from the input, and no end was seen on it
abbrev pub LeavesInput : Streams → Type 0
LeavesInput s = s.input_after ≡ s.input

-- the text is all that was left, at most 262,144 bytes, nothing is left, and the end is seen
pub record ReadWhole (before after : SourceState) (text : List ℕ) : Type 0 where
  pub taken : Consumes before.left after.left text
  pub none_left : IsAtEnd after.left
  pub seen : after.end_is_seen ≡ true
  pub short : length text ≤ 262144

-- the input is the text of the cell
pub record SpellsInput (before after : SourceState) (cell : Structure) : Type 0 where
  pub text : List ℕ
  pub read : ReadWhole before after text
  pub spelled : Spells text cell

-- the text is the whole file of this name, at most so many bytes, nothing of it is left, and its end is seen
pub record ReadsFile (limit : ℕ) (before after : ShelfState) (name text : List ℕ) : Type 0 where
  pub taken : Leaves before.files name text after.picked.left
  pub none_left : IsAtEnd after.picked.left
  pub seen : after.picked.end_is_seen ≡ true
  pub short : length text ≤ limit

-- a table has up to 1,048,576 bytes, and a cell up to 262,144
abbrev pub limit_of : Command → ℕ
limit_of (Symmetry time skip most) = 1048576
limit_of Primitive = 1048576
limit_of Dataset = 1048576
limit_of Orbits = 1048576
limit_of Hall = 1048576
limit_of Identify = 1048576
limit_of Standard = 1048576
limit_of Compare = 262144
limit_of Moments = 1048576
limit_of (Fill f) = 1048576
limit_of (Selfrun seed) = 1048576

-- of the file of the second word one byte more than its limit was taken at most, nothing was read behind its end, and the files
-- are as they were
pub record TakesFile (ws : List (List ℕ)) (before after : ShelfState) : Type 0 where
  pub request : Command
  pub asked : command ws ≡ Ok request
  pub few : TakesAtMostOfFile (suc (limit_of request)) (argument ws) before after
  pub stops : after.picked.read_past_end ≡ before.picked.read_past_end
  pub files : after.files ≡ before.files

-- the words ask for a command that reads a cell
pub record IsAskedOfCell (ws : List (List ℕ)) : Type 0 where
  pub request : Command
  pub asked : command ws ≡ Ok request
  pub reads : ReadsCell request

-- the words ask for a command that reads a table too, and the input is the text of a cell
pub record IsTableWanted (ws : List (List ℕ)) (before after : SourceState) : Type 0 where
  pub request : Command
  pub asked : command ws ≡ Ok request
  pub reads : ReadsTable request
  pub cell : Structure
  pub accepted : SpellsInput before after cell

-- the words ask for `compare`, and the input is the text of a cell
pub record IsOtherWanted (ws : List (List ℕ)) (before after : SourceState) : Type 0 where
  pub asked : command ws ≡ Ok Compare
  pub cell : Structure
  pub accepted : SpellsInput before after cell

abbrev pub IsFileWanted : List (List ℕ) → SourceState → SourceState → Type 0
IsFileWanted ws before after = IsTableWanted ws before after ⊎ IsOtherWanted ws before after

-- the input is the text of a cell, and the report is the one that the command asks for on its crystal
pub record IsReportOnInput (request : Command) (s : Streams) (kept : Kept) (report : List ℕ) : Type 0 where
  pub cell : Structure
  pub accepted : SpellsInput s.input s.input_after cell
  pub is_report : IsReport request cell kept report

-- the cell of the input, and the table that the file of this name spells
pub record HasTable (name : List ℕ) (s : Streams) (cell : Structure) (table : List Row) : Type 0 where
  pub accepted : SpellsInput s.input s.input_after cell
  pub text : List ℕ
  pub read : ReadsFile 1048576 s.shelf s.shelf_after name text
  pub spelled : SpellsTable text table

-- The input is the text of a cell, the file of this name spells a table, and the report is that of the command on both. Whether
-- a row is matched is told besides.
pub record IsReportOnTable (request : Command) (name : List ℕ) (s : Streams) (kept : Kept) (matched : Bool) (report : List ℕ) : Type 0 where
  pub cell : Structure
  pub table : List Row
  pub there : HasTable name s cell table
  pub is_report : IsTableReport request cell table kept matched report

-- The input is the text of a cell, the file of this name is that of another, and the report has all maps between the two.
-- Whether there is one is told besides.
pub record IsReportOnOther (name : List ℕ) (s : Streams) (kept : Kept) (same : Bool) (report : List ℕ) : Type 0 where
  pub cell : Structure
  pub accepted : SpellsInput s.input s.input_after cell
  pub text : List ℕ
  pub read : ReadsFile 262144 s.shelf s.shelf_after name text
  pub other : Structure
  pub spelled : Spells text other
  pub is_report : IsCompareReport cell other kept same report

-- the input is the text of a cell, and the report is that of `fill` on its crystal
pub record IsFillingOnInput (f : Filling) (s : Streams) (kept : Kept) (report : List ℕ) : Type 0 where
  pub cell : Structure
  pub accepted : SpellsInput s.input s.input_after cell
  pub is_report : IsFillingReport cell f kept report

-- The report on the crystal of the input; `hall` and `selfrun` read no input, and report on their word or seed. Only a report
-- on a table or another cell may have no match.
abbrev pub AnswersTo : Command → List ℕ → Streams → Kept → Bool → List ℕ → Type 0
AnswersTo (Symmetry time skip most) word s kept matched report = (matched ≡ true) × IsReportOnInput (Symmetry time skip most) s kept report
AnswersTo Primitive word s kept matched report = (matched ≡ true) × IsReportOnInput Primitive s kept report
AnswersTo Dataset word s kept matched report = (matched ≡ true) × IsReportOnInput Dataset s kept report
AnswersTo Orbits word s kept matched report = (matched ≡ true) × IsReportOnInput Orbits s kept report
AnswersTo Hall word s kept matched report = (matched ≡ true) × LeavesInput s × IsHallReport word kept report
AnswersTo Identify word s kept matched report = IsReportOnTable Identify word s kept matched report
AnswersTo Standard word s kept matched report = IsReportOnTable Standard word s kept matched report
AnswersTo Compare word s kept matched report = IsReportOnOther word s kept matched report
AnswersTo Moments word s kept matched report = (matched ≡ true) × IsReportOnInput Moments s kept report
AnswersTo (Fill f) word s kept matched report = (matched ≡ true) × IsFillingOnInput f s kept report
AnswersTo (Selfrun seed) word s kept matched report = (matched ≡ true) × LeavesInput s × IsSeedReport seed kept report

-- the report is the one that the words ask for
pub record Answers (ws : List (List ℕ)) (s : Streams) (kept : Kept) (matched : Bool) (report : List ℕ) : Type 0 where
  pub request : Command
  pub asked : command ws ≡ Ok request
  pub answers : AnswersTo request (argument ws) s kept matched report

-- the whole report was appended to the output
pub record WritesReport (ws : List (List ℕ)) (s : Streams) (kept : Kept) (matched : Bool) : Type 0 where
  pub report : List ℕ
  pub answers : Answers ws s kept matched report
  pub appended : Appends s.output.held s.output_after.held report

-- so many first bytes of the report were appended, fewer than all, and the output failed
pub record WritesPart (ws : List (List ℕ)) (s : Streams) (kept : Kept) (written : ℕ) : Type 0 where
  pub report : List ℕ
  pub matched : Bool
  pub answers : Answers ws s kept matched report
  pub fewer : written < length report
  pub appended : Appends s.output.held s.output_after.held (take written report)
  pub cause : Rose s.out_highest s.output.faults s.output_after.faults

-- the input was read to its end, and this line, counted from 1, is the first that breaks a rule of the cell file: this rule
pub record BreaksRule (before after : SourceState) (line : ℕ) (fault : CellFault) : Type 0 where
  pub text : List ℕ
  pub read : ReadWhole before after text
  pub first : cell_fault text ≡ Some (line, fault)

-- 262,145 bytes of the input were taken before an end or a fault
pub record IsTooLong (before after : SourceState) : Type 0 where
  pub taken : List ℕ
  pub consumed : Consumes before.left after.left taken
  pub count : length taken ≡ 262145
  pub unseen : after.end_is_seen ≡ false

-- the input failed before its end was seen and before it was too long
pub record FailsToRead (highest : Option ℕ) (before after : SourceState) : Type 0 where
  pub taken : List ℕ
  pub consumed : Consumes before.left after.left taken
  pub few : length taken ≤ 262144
  pub unseen : after.end_is_seen ≡ false
  pub cause : Rose highest before.faults after.faults

-- the table of this name was read to its end, and this row, counted from 1, is the first with a fault: this one first
pub record IsTableFault (before after : ShelfState) (name : List ℕ) (row : ℕ) (fault : RowFault) : Type 0 where
  pub text : List ℕ
  pub read : ReadsFile 1048576 before after name text
  pub first : IsFirstFault 0 (rows text) row fault

-- the other cell was read to its end, and this line, counted from 1, is the first that breaks a rule of the cell file: this rule
pub record IsOtherFault (before after : ShelfState) (name : List ℕ) (line : ℕ) (fault : CellFault) : Type 0 where
  pub text : List ℕ
  pub read : ReadsFile 262144 before after name text
  pub first : cell_fault text ≡ Some (line, fault)

-- one byte more than the limit was taken of the file before an end or a fault
pub record IsFileTooLong (limit : ℕ) (before after : ShelfState) (name : List ℕ) : Type 0 where
  pub taken : List ℕ
  pub leaves : Leaves before.files name taken after.picked.left
  pub count : length taken ≡ suc limit
  pub unseen : after.picked.end_is_seen ≡ false

-- the store failed before the end of the file was seen, or tells its files and has none of this name
pub record FailsToReadFile (highest : Option ℕ) (before after : ShelfState) (name : List ℕ) : Type 0 where
  pub cause : Rose highest before.picked.faults after.picked.faults ⊎ IsMissing before.files name
  pub unseen : after.picked.end_is_seen ≡ false

-- the words ask for `fill`, the input is the text of a cell, and this is what it says of the crystal and the moment
pub record AsksToFill (ws : List (List ℕ)) (s : Streams) (P : Structure → Filling → Type 0) : Type 0 where
  pub filling : Filling
  pub asked : command ws ≡ Ok (Fill filling)
  pub cell : Structure
  pub accepted : SpellsInput s.input s.input_after cell
  pub says : P cell filling

-- the words ask for a command on a table, which is there, and which has no report in the basis to which Q takes coordinates
pub record RefusesTableReport (ws : List (List ℕ)) (s : Streams) (q : Matrix) : Type 0 where
  pub request : Command
  pub asked : command ws ≡ Ok request
  pub cell : Structure
  pub table : List Row
  pub there : HasTable (argument ws) s cell table
  pub refused : IsRefusedTable request cell table q

-- the symbol of `hall` is judged without memory
abbrev pub MayWantMemory : Command → List ℕ → Type 0
MayWantMemory (Symmetry time skip most) word = Unit {0}
MayWantMemory Primitive word = Unit {0}
MayWantMemory Dataset word = Unit {0}
MayWantMemory Orbits word = Unit {0}
MayWantMemory Hall word = symbol_fault word ≡ None
MayWantMemory Identify word = Unit {0}
MayWantMemory Standard word = Unit {0}
MayWantMemory Compare word = Unit {0}
MayWantMemory Moments word = Unit {0}
MayWantMemory (Fill f) word = Unit {0}
MayWantMemory (Selfrun seed) word = Unit {0}

-- the words ask for a command, in whose work memory may be wanting
pub record WantsMemory (ws : List (List ℕ)) : Type 0 where
  pub request : Command
  pub asked : command ws ≡ Ok request
  pub may : MayWantMemory request (argument ws)

-- Words outside the rule are always answered so. Behind the other statuses the words ask for a command; a status other
-- than Done, NoMatch, Different and WriteFault leaves the output as it was. Want of memory alone is free.
abbrev pub Outcome : List (List ℕ) → Streams → Status → Type 0
Outcome ws s (Usage fault) = command ws ≡ Err fault
Outcome ws s (Done kept) = WritesReport ws s kept true
Outcome ws s (NoMatch q) = WritesReport ws s (Back q) false
Outcome ws s (Different q q') = WritesReport ws s (Two q q') false
Outcome ws s (NotAllowed q) = AsksToFill ws s (λ c f. IsRefusedThere c q f)
Outcome ws s NoSuchAtom = AsksToFill ws s HasNoAtom
Outcome ws s (TooWide q) = RefusesTableReport ws s q
Outcome ws s (WriteFault written kept) = WritesPart ws s kept written
Outcome ws s (CellRefused line fault) = IsAskedOfCell ws × BreaksRule s.input s.input_after line fault
Outcome ws s CellTooLong = IsAskedOfCell ws × IsTooLong s.input s.input_after
Outcome ws s ReadFault = (IsAskedOfCell ws × FailsToRead s.in_highest s.input s.input_after)
    ⊎ (IsFileWanted ws s.input s.input_after × FailsToReadFile s.shelf_highest s.shelf s.shelf_after (argument ws))
Outcome ws s (SymbolRefused fault) = (command ws ≡ Ok Hall) × IsSymbolFault (argument ws) fault
Outcome ws s (TableRefused row fault) = IsTableWanted ws s.input s.input_after × IsTableFault s.shelf s.shelf_after (argument ws) row fault
Outcome ws s TableTooLong = IsTableWanted ws s.input s.input_after × IsFileTooLong 1048576 s.shelf s.shelf_after (argument ws)
Outcome ws s (OtherRefused line fault) = IsOtherWanted ws s.input s.input_after × IsOtherFault s.shelf s.shelf_after (argument ws) line fault
Outcome ws s OtherTooLong = IsOtherWanted ws s.input s.input_after × IsFileTooLong 262144 s.shelf s.shelf_after (argument ws)
Outcome ws s Memory = WantsMemory ws
