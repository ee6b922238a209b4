use Rattle.lattice_reduce.specs.Steps.{tensor_of}
use Rattle.lattice_reduce.proofs.GoodSteps.{good_x', good_y', good_z', good_sum'}
use Rattle.lattice_reduce.proofs.choice.obtuse_edge.Goals as goal

pub returns-then-is_back_edge : goal.returns-then-is_back_edge
returns-then-is_back_edge c = rw c.whole-minus.ensures (good_x' (tensor_of c.args.g.now) c.requires.signs c.requires.diagonal c.if-is_back_edge.ensures)

pub returns-then-is_back_edge-2 : goal.returns-then-is_back_edge-2
returns-then-is_back_edge-2 c = rw c.whole-minus.ensures (good_y' (tensor_of c.args.g.now) c.requires.signs c.requires.diagonal c.if-is_back_edge-2.ensures)

pub returns-then-is_back_edge-3 : goal.returns-then-is_back_edge-3
returns-then-is_back_edge-3 c = rw c.whole-minus.ensures (good_z' (tensor_of c.args.g.now) c.requires.signs c.requires.diagonal c.if-is_back_edge-3.ensures)

pub returns-then-is_sum_edge : goal.returns-then-is_sum_edge
returns-then-is_sum_edge c = good_sum' (tensor_of c.args.g.now) c.requires.signs c.requires.short c.requires.order c.if-is_sum_edge.ensures
