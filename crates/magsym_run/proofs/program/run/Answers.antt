use Rattle.magsym_run.proofs.Complete.{complete_of_outcome}
use Rattle.magsym_run.proofs.program.run.Goals as goal

pub returns-clause-complete : goal.returns-clause-complete
returns-clause-complete g c = complete_of_outcome c.args.words.now _ c.answer-status.result c.answer-status.ensures.outcome
