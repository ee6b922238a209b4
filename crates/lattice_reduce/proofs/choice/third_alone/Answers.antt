use Rattle.lattice_reduce.specs.Steps.{tensor_of}
use Rattle.lattice_reduce.proofs.Signs.{negative, third_second, third_first, third_third}
use Rattle.lattice_reduce.proofs.choice.third_alone.Goals as goal

pub returns-then-is_zero : goal.returns-then-is_zero
returns-then-is_zero c = third_second (tensor_of c.args.g.now) c.if-is_zero.ensures c.requires.second c.requires.third

pub returns-then-is_zero-2 : goal.returns-then-is_zero-2
returns-then-is_zero-2 c = third_first (tensor_of c.args.g.now) c.requires.first c.if-is_zero-2.ensures c.requires.third

pub returns-else-is_zero-2 : goal.returns-else-is_zero-2
returns-else-is_zero-2 c = third_third (tensor_of c.args.g.now) (negative c.args.g.now.bc c.requires.first c.if-is_zero.ensures) (negative c.args.g.now.ac c.requires.second c.if-is_zero-2.ensures) c.requires.third
