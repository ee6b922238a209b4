use Rattle.cell_print.proofs.SpelledPrintable.{spelled_printable}
use Rattle.cell_print.proofs.cell_file.spelled_is_printable.Goals as goal

pub returns : goal.returns
returns c = spelled_printable
