use Rattle.command_words.specs.declared.command.Command.TheVariants.{Fill}
use Rattle.answers.specs.Answers.{IsFillAnswer}
use Rattle.command_runs.proofs.Written.{finished_outcome, of_refusal, told_on_moment}
use Rattle.command_runs.proofs.commands.with_moment.Goals as goal

pub returns-clause-outcome : goal.returns-clause-outcome
returns-clause-outcome g c ws highest shelf is_asked =
    let f = c.args.filling in
    let cell = c.in-Ok.cell in
    let r = c.answer_fill-answer.result in
    finished_outcome ws _ (Fill f) (IsFillAnswer cell f) r c.finish.result is_asked c.answer_fill-answer.ensures (of_refusal r _ tt)
    (told_on_moment ws _ f cell c.finish.result is_asked c.in-Ok.ensures.accepted) c.finish.ensures.finished
