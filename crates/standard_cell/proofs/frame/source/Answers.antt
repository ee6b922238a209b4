use Rattle.std.proofs.Common.{ap, ◌∙◌}
use Rattle.matrix3.proofs.FitsBySize.{image_fits}
use Rattle.crystal_spec.specs.Matrices.{Matrix, image}
use Rattle.standard_cell.proofs.FrameSizes.{back_small}
use Rattle.standard_cell.proofs.frame.source.Goals as goal

pub apply-requires-clause-fits : goal.apply-requires-clause-fits
apply-requires-clause-fits c = image_fits c.args.frame.now.back c.args.goal.now (back_small c.args.frame.now c.requires.frame) c.requires.goal tt

pub returns : goal.returns
returns c = c.apply.ensures.value ∙ ap (λ (m : Matrix). image m c.args.goal.now) c.requires.frame.back
