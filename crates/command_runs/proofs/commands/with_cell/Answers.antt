use Rattle.command_words.specs.Commands.{argument}
use Rattle.answers.specs.Answers.{IsAnswer}
use Rattle.command_runs.proofs.Written.{finished_outcome, of_refusal, told_on_input, reads_cell, cell_wants_memory}
use Rattle.command_runs.proofs.commands.with_cell.Goals as goal

pub returns-clause-outcome : goal.returns-clause-outcome
returns-clause-outcome g c ws highest shelf is_asked =
    let request = c.args.request in
    let cell = c.in-Ok.cell in
    let r = c.answer_of-answer.result in
    finished_outcome ws _ request (IsAnswer request cell) r c.finish.result is_asked c.answer_of-answer.ensures
    (of_refusal r _ (cell_wants_memory request (argument ws) (reads_cell request c.requires)))
    (told_on_input ws _ request cell c.finish.result is_asked c.requires c.in-Ok.ensures.accepted) c.finish.ensures.finished
