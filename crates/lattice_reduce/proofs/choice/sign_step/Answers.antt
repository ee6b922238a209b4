use Rattle.lattice_reduce.specs.Steps.{tensor_of}
use Rattle.lattice_reduce.proofs.Signs.{two_third, two_second, two_first}
use Rattle.lattice_reduce.proofs.choice.sign_step.Goals as goal

pub returns-else-is_positive-3 : goal.returns-else-is_positive-3
returns-else-is_positive-3 c = two_third (tensor_of c.args.g.now) c.if-is_positive.ensures c.if-is_positive-2.ensures c.if-is_positive-3.ensures

pub returns-then-is_positive-4 : goal.returns-then-is_positive-4
returns-then-is_positive-4 c = two_second (tensor_of c.args.g.now) c.if-is_positive.ensures c.if-is_positive-2.ensures c.if-is_positive-4.ensures

pub returns-then-is_positive-6 : goal.returns-then-is_positive-6
returns-then-is_positive-6 c = two_first (tensor_of c.args.g.now) c.if-is_positive.ensures c.if-is_positive-5.ensures c.if-is_positive-6.ensures
