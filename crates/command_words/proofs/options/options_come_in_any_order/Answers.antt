use Rattle.command_words.proofs.OptionOrder.{come_in_any_order}
use Rattle.command_words.proofs.options.options_come_in_any_order.Goals as goal

pub returns : goal.returns
returns c = come_in_any_order
