use Rattle.lattice_reduce.specs.Steps.{tensor_of}
use Rattle.lattice_reduce.proofs.Signs.{negative, first_third, first_second, first_first}
use Rattle.lattice_reduce.proofs.choice.first_alone.Goals as goal

pub returns-then-is_zero : goal.returns-then-is_zero
returns-then-is_zero c = first_third (tensor_of c.args.g.now) c.requires.first c.if-is_zero.ensures c.requires.third

pub returns-then-is_zero-2 : goal.returns-then-is_zero-2
returns-then-is_zero-2 c = first_second (tensor_of c.args.g.now) c.requires.first c.requires.second c.if-is_zero-2.ensures

pub returns-else-is_zero-2 : goal.returns-else-is_zero-2
returns-else-is_zero-2 c = first_first (tensor_of c.args.g.now) c.requires.first (negative c.args.g.now.ac c.requires.second c.if-is_zero.ensures) (negative c.args.g.now.ab c.requires.third c.if-is_zero-2.ensures)
