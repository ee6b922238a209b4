use Rattle.std.proofs.Common.{arith}
use Rattle.cell_text.proofs.Fillings.{kept_names, more_names, is_new}
use Rattle.cell_text.proofs.cell.name_species.Goals as goal

pub returns-then-number-names : goal.returns-then-number-names
returns-then-number-names c = kept_names c.args.cell.now c.args.name.now c.args.number c.requires.number (omega arith)

pub add_name-requires-clause-new : goal.add_name-requires-clause-new
add_name-requires-clause-new c = is_new c.args.cell.now.names c.copied.result c.args.name.now c.args.number c.requires.number (omega arith) c.copied.ensures

pub returns : goal.returns
returns c = more_names c.args.cell.now c.add_name.new.self c.copied.result c.args.name.now c.args.number c.requires.number (omega arith) c.copied.ensures c.in_ok-add_name.ensures.value
