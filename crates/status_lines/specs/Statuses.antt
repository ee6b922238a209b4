-- The line that tells how a run ended.
--   fault_text fault   what the line says of a fault of the cell file
--   refusal place line fault   the line on a cell file that breaks a rule, which begins with this place
--   line_of status     what goes to the error stream: nothing after a whole report, else one line
use Rattle.std.specs.Prelude.{ℕ, List, [], ◌∷◌, ◌++◌, codes, decimal}
use Rattle.plain_text.specs.declared.texts.TheConstants.{BAD_NUMBER, NUMBER_RANGE, ZERO_DENOMINATOR}
use Rattle.cell_text.specs.declared.texts.TheConstants.{NOT_MAGCELL, BAD_BYTE, BAD_LINE, METRIC_TWICE, KIND_TWICE, KIND_LATE, METRIC_MISSING, METRIC_RANGE, NOT_POSITIVE, POSITION_RANGE, MOMENT_RANGE, TOO_MANY_ATOMS, NO_ATOM, BEFORE_ATOMS, BETWEEN_ATOMS, BEHIND_ATOMS, NO_END, AFTER_END, OUT_OF_MEMORY}
use Rattle.hall_text.specs.RowTexts.{row_text}
use Rattle.cell_text.specs.declared.fault.CellFault.{CellFault}
use Rattle.cell_text.specs.declared.fault.CellFault.TheVariants.{NotMagcell, BadByte, BadLine, BadNumber, NumberRange, ZeroDenominator, MetricTwice, KindTwice, KindLate, MetricMissing, MetricRange, NotPositive, PositionRange, MomentRange, TooManyAtoms, NoAtom, SamePlace, NoEnd, AfterEnd}
use Rattle.command_words.specs.declared.command.UsageFault.{UsageFault}
use Rattle.command_words.specs.declared.command.UsageFault.TheVariants.{NoCommand, UnknownCommand, UnknownOption, RepeatedOption, MissingValue, BadValue, MissingWord, ExtraWord}
use Rattle.run_status.specs.declared.status.Status.{Status}
use Rattle.run_status.specs.declared.status.Status.TheVariants.{Done, NoMatch, Different, NotAllowed, Usage, CellTooLong, CellRefused, NoSuchAtom, OtherTooLong, OtherRefused, SymbolRefused, TableRefused, TableTooLong, ReadFault, WriteFault, Memory, TooWide}

-- `magsym: `, the sentence and LF
abbrev pub told : List ℕ → List ℕ
told text = codes "magsym: " ++ text ++ 10 ∷ []

abbrev pub usage_line : UsageFault → List ℕ
usage_line NoCommand = told (codes "no command")
usage_line UnknownCommand = told (codes "unknown command")
usage_line UnknownOption = told (codes "unknown option")
usage_line RepeatedOption = told (codes "option given twice")
usage_line MissingValue = told (codes "option needs a value")
usage_line BadValue = told (codes "value is not a number of 1 to 9 digits")
usage_line MissingWord = told (codes "command needs one more word")
usage_line ExtraWord = told (codes "too many words")

-- The texts stand in cell_text (`src/texts.rt`) and plain_text, each once; atoms are counted from 1.
abbrev pub fault_text : CellFault → List ℕ
fault_text NotMagcell = NOT_MAGCELL.now
fault_text BadByte = BAD_BYTE.now
fault_text BadLine = BAD_LINE.now
fault_text BadNumber = BAD_NUMBER.now
fault_text NumberRange = NUMBER_RANGE.now
fault_text ZeroDenominator = ZERO_DENOMINATOR.now
fault_text MetricTwice = METRIC_TWICE.now
fault_text KindTwice = KIND_TWICE.now
fault_text KindLate = KIND_LATE.now
fault_text MetricMissing = METRIC_MISSING.now
fault_text MetricRange = METRIC_RANGE.now
fault_text NotPositive = NOT_POSITIVE.now
fault_text PositionRange = POSITION_RANGE.now
fault_text MomentRange = MOMENT_RANGE.now
fault_text TooManyAtoms = TOO_MANY_ATOMS.now
fault_text NoAtom = NO_ATOM.now
fault_text (SamePlace i j) = BEFORE_ATOMS.now ++ decimal i ++ BETWEEN_ATOMS.now ++ decimal j ++ BEHIND_ATOMS.now
fault_text NoEnd = NO_END.now
fault_text AfterEnd = AFTER_END.now

-- the line with this number, and the rule that it breaks
abbrev pub refusal : List ℕ → ℕ → CellFault → List ℕ
refusal place line fault = told (place ++ decimal line ++ codes ": " ++ fault_text fault)

abbrev pub line_of : Status → List ℕ
line_of (Done kept) = []
line_of (NoMatch q) = []
line_of (Different q q') = []
line_of (NotAllowed q) = told (codes "moment is not allowed at this site")
line_of (Usage fault) = usage_line fault
line_of CellTooLong = told (codes "cell is longer than 262144 bytes")
line_of (CellRefused line fault) = refusal (codes "line ") line fault
line_of NoSuchAtom = told (codes "no such atom")
line_of OtherTooLong = told (codes "other cell is longer than 262144 bytes")
line_of (OtherRefused line fault) = refusal (codes "other line ") line fault
line_of (SymbolRefused fault) = told (codes "symbol: " ++ row_text fault)
line_of (TableRefused row fault) = told (codes "row " ++ decimal row ++ codes ": " ++ row_text fault)
line_of TableTooLong = told (codes "table is longer than 1048576 bytes")
line_of ReadFault = told (codes "reading failed")
line_of (WriteFault written kept) = told (codes "writing failed")
line_of Memory = told OUT_OF_MEMORY.now
line_of (TooWide q) = told (codes "standard cell is too large")
