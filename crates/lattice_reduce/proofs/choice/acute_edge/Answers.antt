use Rattle.lattice_reduce.specs.Steps.{tensor_of}
use Rattle.lattice_reduce.proofs.GoodSteps.{good_x, good_y, good_z}
use Rattle.lattice_reduce.proofs.choice.acute_edge.Goals as goal

pub returns-then-is_edge : goal.returns-then-is_edge
returns-then-is_edge c = rw c.whole-one.ensures (good_x (tensor_of c.args.g.now) c.requires.signs c.if-is_edge.ensures)

pub returns-then-is_edge-2 : goal.returns-then-is_edge-2
returns-then-is_edge-2 c = rw c.whole-one.ensures (good_y (tensor_of c.args.g.now) c.requires.signs c.if-is_edge-2.ensures)

pub returns-then-is_edge-3 : goal.returns-then-is_edge-3
returns-then-is_edge-3 c = rw c.whole-one.ensures (good_z (tensor_of c.args.g.now) c.requires.signs c.if-is_edge-3.ensures)
