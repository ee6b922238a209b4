use Rattle.std.proofs.Common.{rules}
use Rattle.cell_text.specs.CellFile.{Spells}
use Rattle.cell_text.proofs.NameLemmas.{spelled_numbered}
use Rattle.cell_text.proofs.SpelledSizes.{spelled_sizes}
use Rattle.cell_text.proofs.read.read_cell.Goals as goal

pub returns-clause-numbered : goal.returns-clause-numbered
returns-clause-numbered c = let spelled : Spells c.args.text.now c.in_ok-cell.cell = search rules in spelled_numbered c.args.text.now c.in_ok-cell.cell spelled

pub returns-clause-sizes : goal.returns-clause-sizes
returns-clause-sizes c = let spelled : Spells c.args.text.now c.in_ok-cell.cell = search rules in spelled_sizes c.args.text.now c.in_ok-cell.cell spelled
