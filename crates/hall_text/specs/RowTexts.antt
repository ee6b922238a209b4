-- The texts of the faults of a row.
--   row_text f    the text of a fault
-- Our own. The texts themselves are constants of `src/texts.rt`, and those of symbols in hall_symbol's `specs/FaultTexts`.
use Rattle.std.specs.Prelude.{ℕ, List}
use Rattle.hall_symbol.specs.FaultTexts.{numbered_text, fault_text}
use Rattle.hall_text.specs.declared.fault.RowFault.{RowFault}
use Rattle.hall_text.specs.declared.fault.RowFault.TheVariants as faults
use Rattle.hall_text.specs.declared.limits.TheConstants.{MOST_ROWS}
use Rattle.hall_text.specs.declared.texts.TheConstants.{TOO_MANY_MATRICES, MORE_THAN, ROWS, BAD_ROW}

abbrev pub row_text : RowFault → List ℕ
row_text (faults.Symbol f) = fault_text f
row_text faults.TooManyMatrices = TOO_MANY_MATRICES.now
row_text faults.TooManyRows = numbered_text MORE_THAN.now MOST_ROWS ROWS.now
row_text faults.BadRow = BAD_ROW.now
