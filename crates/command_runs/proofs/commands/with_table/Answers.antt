use Rattle.std.proofs.Common.{subst, sym, List, ℕ}
use Rattle.command_words.specs.Commands.{argument}
use Rattle.answers.specs.Answers.{IsTableAnswer}
use Rattle.command_runs.specs.Writings.{IsTableOf, RefusesTable}
use Rattle.command_runs.proofs.Written.{finished_outcome, of_refusal, told_on_table, table_reads_cell, cell_wants_memory, table_refused_outcome}
use Rattle.command_runs.proofs.commands.with_table.Goals as goal

pub returns-clause-outcome : goal.returns-clause-outcome
returns-clause-outcome g c ws is_asked named =
    let request = c.args.request in
    let cell = c.in-Ok.cell in
    let table = c.in-Ok-table_of_file.table in
    let r = c.answer_on_table-answer.result in
    let of_file : IsTableOf (g.F.Shelf.state c.args.shelf.now) (g.F.Shelf.state c.table_of_file.new.shelf) (argument ws) table =
    subst (λ (name : List ℕ). IsTableOf (g.F.Shelf.state c.args.shelf.now) (g.F.Shelf.state c.table_of_file.new.shelf) name table) (sym named) c.in-Ok-table_of_file.ensures.spelled in
    finished_outcome ws _ request (IsTableAnswer request cell table) r c.finish.result is_asked c.answer_on_table-answer.ensures
    (of_refusal r _ (cell_wants_memory request (argument ws) (table_reads_cell request c.requires)))
    (told_on_table ws _ request cell table c.finish.result is_asked c.requires (record { accepted = c.in-Ok.ensures.accepted; text = of_file.text; read = of_file.read; spelled = of_file.spelled })) c.finish.ensures.finished

-- the table can't be had
pub returns-in-Err-table_of_file-clause-outcome : goal.returns-in-Err-table_of_file-clause-outcome
returns-in-Err-table_of_file-clause-outcome g c ws is_asked named =
    let status = c.in-Err-table_of_file.status in
    let refused : RefusesTable g.F.Shelf.highest_count (g.F.Shelf.state c.args.shelf.now) (g.F.Shelf.state c.table_of_file.new.shelf) (argument ws) status =
    subst (λ (name : List ℕ). RefusesTable g.F.Shelf.highest_count (g.F.Shelf.state c.args.shelf.now) (g.F.Shelf.state c.table_of_file.new.shelf) name status) (sym named) c.in-Err-table_of_file.ensures.refused in
    table_refused_outcome ws _ status (record { request = c.args.request; asked = is_asked; reads = c.requires; cell = c.in-Ok.cell; accepted = c.in-Ok.ensures.accepted }) refused
