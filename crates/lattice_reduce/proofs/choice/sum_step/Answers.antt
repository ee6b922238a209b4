use Rattle.std.proofs.Common.{ℤ, pos, ◌<ℤ◌, subst}
use Rattle.lattice_reduce.specs.Steps.{tensor_of}
use Rattle.lattice_reduce.proofs.GoodSteps.{good_sum}
use Rattle.lattice_reduce.proofs.choice.sum_step.Goals as goal

pub returns-then-is_negative : goal.returns-then-is_negative
returns-then-is_negative c = good_sum (tensor_of c.args.g.now) (subst (λ (t : ℤ). t <ℤ pos 0) c.excess.ensures c.if-is_negative.ensures)
