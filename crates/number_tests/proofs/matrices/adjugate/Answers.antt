use Rattle.matrix3.proofs.FitsBySize.{adjugate_fits}
use Rattle.number_tests.proofs.matrices.adjugate.Goals as goal

pub adjugate-requires-clause-fits : goal.adjugate-requires-clause-fits
adjugate-requires-clause-fits c = adjugate_fits _ c.matrix.ensures tt
