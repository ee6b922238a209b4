use Rattle.std.proofs.Common.{ap, ◌∙◌}
use Rattle.crystal_spec.specs.Matrices.{image}
use Rattle.positions.specs.Positions.{triple_of, modulo}
use Rattle.positions.proofs.Rows.{without_translation}
use Rattle.positions.proofs.matrix_modulo.MatrixModulo.image.Goals as goal

pub returns : goal.returns
returns c = c.carried.ensures ∙ ap (modulo c.args.self.now.modulus) (without_translation (image c.args.self.now.matrix (triple_of c.args.place)))
