use Rattle.lattice_reduce.specs.Steps.{tensor_of}
use Rattle.lattice_reduce.proofs.Signs.{negative, second_third, second_first, second_second}
use Rattle.lattice_reduce.proofs.choice.second_alone.Goals as goal

pub returns-then-is_zero : goal.returns-then-is_zero
returns-then-is_zero c = second_third (tensor_of c.args.g.now) c.if-is_zero.ensures c.requires.second c.requires.third

pub returns-then-is_zero-2 : goal.returns-then-is_zero-2
returns-then-is_zero-2 c = second_first (tensor_of c.args.g.now) c.requires.first c.requires.second c.if-is_zero-2.ensures

pub returns-else-is_zero-2 : goal.returns-else-is_zero-2
returns-else-is_zero-2 c = second_second (tensor_of c.args.g.now) (negative c.args.g.now.bc c.requires.first c.if-is_zero.ensures) c.requires.second (negative c.args.g.now.ab c.requires.third c.if-is_zero-2.ensures)
