use Rattle.matrix3.proofs.FitsBySize.{image_fits}
use Rattle.number_tests.proofs.matrices.image.Goals as goal

pub apply-w-requires-clause-fits : goal.apply-w-requires-clause-fits
apply-w-requires-clause-fits c = image_fits _ _ c.matrix.ensures c.column.ensures tt
