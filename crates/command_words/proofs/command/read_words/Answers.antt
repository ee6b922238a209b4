use Rattle.std.proofs.Common.{sym, subst}
use Rattle.std.specs.Prelude.{IfOk}
use Rattle.std.specs.declared.result.Result.{Result}
use Rattle.command_words.specs.declared.command.Command.{Command}
use Rattle.command_words.specs.declared.command.UsageFault.{UsageFault}
use Rattle.command_words.specs.Fillings.{HasSmallMoment}
use Rattle.command_words.proofs.SmallMoments.{small_moment}
use Rattle.command_words.proofs.command.read_words.Goals as goal

pub returns-clause-small : goal.returns-clause-small
returns-clause-small c = subst (λ (r : Result Command UsageFault). IfOk r HasSmallMoment) (sym c.asked.ensures) (small_moment c.args.words.now)
