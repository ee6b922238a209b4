use Rattle.lattice_reduce.specs.Steps.{tensor_of}
use Rattle.lattice_reduce.proofs.GoodSteps.{good_second, good_third, good_third_first}
use Rattle.lattice_reduce.proofs.choice.short_step.Goals as goal

pub returns-then-is_long : goal.returns-then-is_long
returns-then-is_long c = good_second (tensor_of c.args.g.now) c.nearest.result c.requires.diagonal.aa c.nearest.ensures.small c.nearest.ensures.rest c.if-is_long.ensures

pub returns-then-is_long-2 : goal.returns-then-is_long-2
returns-then-is_long-2 c = good_third (tensor_of c.args.g.now) c.nearest-then-is_long-2.result c.requires.diagonal.bb c.nearest-then-is_long-2.ensures.small c.nearest-then-is_long-2.ensures.rest c.if-is_long-2.ensures

pub returns-then-is_long-3 : goal.returns-then-is_long-3
returns-then-is_long-3 c = good_third_first (tensor_of c.args.g.now) c.nearest-then-is_long-3.result c.requires.diagonal.aa c.nearest-then-is_long-3.ensures.small c.nearest-then-is_long-3.ensures.rest c.if-is_long-3.ensures
