-- What a command answers.
--   IsAnswer command c answer      the answer to the command on the crystal c
--   IsHallAnswer word answer       the answer to `hall` on a word
--   IsSeedAnswer seed answer       the answer to `selfrun` on a seed
--   IsTableAnswer command c rows answer   the answer to `identify` or `standard` on the crystal c and the rows of a table
--   IsCompareAnswer c c' answer    the answer to `compare` on two crystals
--   IsFillAnswer c f answer        the answer to `fill` on the crystal c and a moment for an atom
-- Our own.
use Rattle.std.specs.Prelude.{ℕ, List, true, false}
use Rattle.crystal_spec.specs.Crystals.{Structure}
use Rattle.hall_text.specs.declared.rows.Row.{Row}
use Rattle.command_words.specs.declared.command.Command.{Command}
use Rattle.command_words.specs.declared.filling.Filling.{Filling}
use Rattle.report_basis.specs.declared.Kept.TheVariants.{Back, Two}
use Rattle.answers.specs.declared.answer.Answer.{Answer}
use Rattle.answers.specs.declared.answer.Answer.TheVariants.{Report, NoMatch, Different, SymbolRefused, NoSuchAtom, NotAllowed, TooWide}
use Rattle.answers.specs.CompareReports.{IsCompareReport}
use Rattle.answers.specs.FillReports.{HasNoAtom, IsFillingReport, IsRefusedThere}
use Rattle.answers.specs.HallReports.{IsHallReport, IsSymbolFault}
use Rattle.answers.specs.Reports.{IsReport}
use Rattle.answers.specs.SummaryReports.{IsSeedReport}
use Rattle.answers.specs.TableReports.{IsTableReport, IsRefusedTable}

-- a report is the one that the command asks for
abbrev pub IsAnswer : Command → Structure → Answer → Type 0
IsAnswer command c (Report report) = IsReport command c report.kept report.text
IsAnswer command c (NoMatch q text) = ⊥
IsAnswer command c (Different q q' text) = ⊥
IsAnswer command c (SymbolRefused fault) = ⊥
IsAnswer command c NoSuchAtom = ⊥
IsAnswer command c (NotAllowed q) = ⊥
IsAnswer command c (TooWide q) = ⊥

-- the report of the symbol's group, or why there is none
abbrev pub IsHallAnswer : List ℕ → Answer → Type 0
IsHallAnswer word (Report report) = IsHallReport word report.kept report.text
IsHallAnswer word (NoMatch q text) = ⊥
IsHallAnswer word (Different q q' text) = ⊥
IsHallAnswer word (SymbolRefused fault) = IsSymbolFault word fault
IsHallAnswer word NoSuchAtom = ⊥
IsHallAnswer word (NotAllowed q) = ⊥
IsHallAnswer word (TooWide q) = ⊥

-- the summary of the generated cell
abbrev pub IsSeedAnswer : ℕ → Answer → Type 0
IsSeedAnswer seed (Report report) = IsSeedReport seed report.kept report.text
IsSeedAnswer seed (NoMatch q text) = ⊥
IsSeedAnswer seed (Different q q' text) = ⊥
IsSeedAnswer seed (SymbolRefused fault) = ⊥
IsSeedAnswer seed NoSuchAtom = ⊥
IsSeedAnswer seed (NotAllowed q) = ⊥
IsSeedAnswer seed (TooWide q) = ⊥

-- told apart by whether a row has a map, and whether a cell can hold the report
abbrev pub IsTableAnswer : Command → Structure → List Row → Answer → Type 0
IsTableAnswer command c rows (Report report) = IsTableReport command c rows report.kept true report.text
IsTableAnswer command c rows (NoMatch q text) = IsTableReport command c rows (Back q) false text
IsTableAnswer command c rows (Different q q' text) = ⊥
IsTableAnswer command c rows (SymbolRefused fault) = ⊥
IsTableAnswer command c rows NoSuchAtom = ⊥
IsTableAnswer command c rows (NotAllowed q) = ⊥
IsTableAnswer command c rows (TooWide q) = IsRefusedTable command c rows q

-- told apart by whether there is a map
abbrev pub IsCompareAnswer : Structure → Structure → Answer → Type 0
IsCompareAnswer c c' (Report report) = IsCompareReport c c' report.kept true report.text
IsCompareAnswer c c' (NoMatch q text) = ⊥
IsCompareAnswer c c' (Different q q' text) = IsCompareReport c c' (Two q q') false text
IsCompareAnswer c c' (SymbolRefused fault) = ⊥
IsCompareAnswer c c' NoSuchAtom = ⊥
IsCompareAnswer c c' (NotAllowed q) = ⊥
IsCompareAnswer c c' (TooWide q) = ⊥

-- the filled cell, or why there is none
abbrev pub IsFillAnswer : Structure → Filling → Answer → Type 0
IsFillAnswer c f (Report report) = IsFillingReport c f report.kept report.text
IsFillAnswer c f (NoMatch q text) = ⊥
IsFillAnswer c f (Different q q' text) = ⊥
IsFillAnswer c f (SymbolRefused fault) = ⊥
IsFillAnswer c f NoSuchAtom = HasNoAtom c f
IsFillAnswer c f (NotAllowed q) = IsRefusedThere c q f
IsFillAnswer c f (TooWide q) = ⊥
