use Rattle.matrix3.proofs.FitsBySize.{determinant_fits}
use Rattle.number_tests.proofs.matrices.determinant.Goals as goal

pub handed-requires-clause-fits : goal.handed-requires-clause-fits
handed-requires-clause-fits c = determinant_fits _ c.matrix.ensures tt tt
