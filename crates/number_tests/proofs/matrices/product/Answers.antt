use Rattle.matrix3.proofs.FitsBySize.{product_fits}
use Rattle.number_tests.proofs.matrices.product.Goals as goal

pub times-requires-clause-fits : goal.times-requires-clause-fits
times-requires-clause-fits c = product_fits _ _ c.matrix.ensures c.matrix-2.ensures tt
