use Rattle.std.proofs.Common.{ap, ◌∙◌, lit≤}
use Rattle.crystal_spec.specs.Matrices.{sum_of}
use Rattle.matrix3.proofs.FitsBySize.{sum_size, coordinates_grown}
use Rattle.positions.specs.Positions.{modulo}
use Rattle.mag_ops.proofs.carried.moved.Goals as goal

pub plus-requires : goal.plus-requires
plus-requires c = record { fits = coordinates_grown (lit≤ tt) (sum_size c.requires.size c.column.ensures.size) }

pub returns : goal.returns
returns c = c.modulo.ensures ∙ ap (modulo c.args.n) (c.plus.ensures ∙ ap (sum_of c.args.start.now) c.column.ensures.value)
