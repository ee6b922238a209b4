use Rattle.lattice_reduce.specs.Steps.{tensor_of}
use Rattle.lattice_reduce.proofs.GoodSteps.{good_exchange_first, good_exchange_last}
use Rattle.lattice_reduce.proofs.choice.sort_step.Goals as goal

pub returns-then-is_above : goal.returns-then-is_above
returns-then-is_above c = good_exchange_first (tensor_of c.args.g.now) c.if-is_above.ensures

pub returns-then-is_above-2 : goal.returns-then-is_above-2
returns-then-is_above-2 c = good_exchange_last (tensor_of c.args.g.now) c.if-is_above-2.ensures
