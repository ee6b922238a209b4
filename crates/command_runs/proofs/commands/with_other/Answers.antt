use Rattle.std.proofs.Common.{subst, sym, List, ℕ}
use Rattle.command_words.specs.declared.command.Command.TheVariants.{Compare}
use Rattle.command_words.specs.Commands.{argument}
use Rattle.answers.specs.Answers.{IsCompareAnswer}
use Rattle.command_runs.specs.Writings.{IsCellOf}
use Rattle.command_runs.proofs.Written.{finished_outcome, of_refusal, told_on_other}
use Rattle.command_runs.proofs.commands.with_other.Goals as goal

pub returns-clause-outcome : goal.returns-clause-outcome
returns-clause-outcome g c ws is_asked named =
    let cell = c.in-Ok.cell in
    let other = c.in-Ok-cell_of_file.other in
    let r = c.answer_compare-answer.result in
    let of_file : IsCellOf (g.F.Shelf.state c.args.shelf.now) (g.F.Shelf.state c.cell_of_file.new.shelf) (argument ws) other =
    subst (λ (name : List ℕ). IsCellOf (g.F.Shelf.state c.args.shelf.now) (g.F.Shelf.state c.cell_of_file.new.shelf) name other) (sym named) c.in-Ok-cell_of_file.ensures.spelled in
    finished_outcome ws _ Compare (IsCompareAnswer cell other) r c.finish.result is_asked c.answer_compare-answer.ensures (of_refusal r _ tt)
    (told_on_other ws _ cell other c.finish.result is_asked c.in-Ok.ensures.accepted of_file) c.finish.ensures.finished
