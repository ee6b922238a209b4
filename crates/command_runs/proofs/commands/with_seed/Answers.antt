use Rattle.std.proofs.Common.{refl}
use Rattle.command_words.specs.declared.command.Command.TheVariants.{Selfrun}
use Rattle.answers.specs.Answers.{IsSeedAnswer}
use Rattle.command_runs.proofs.Written.{finished_outcome, of_refusal, told_on_seed}
use Rattle.command_runs.proofs.commands.with_seed.Goals as goal

pub returns-clause-outcome : goal.returns-clause-outcome
returns-clause-outcome g c ws highest store input shelf is_asked =
    let seed = c.args.seed in
    let r = c.answer_selfrun-answer.result in
    finished_outcome ws _ (Selfrun seed) (IsSeedAnswer seed) r c.finish.result is_asked c.answer_selfrun-answer.ensures (of_refusal r _ tt)
    (told_on_seed ws _ seed c.finish.result is_asked refl) c.finish.ensures.finished
