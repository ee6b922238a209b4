use Rattle.matrix3.proofs.FitsBySize.{determinant_fits}
use Rattle.crystal_compare.proofs.matrices.is_unimodular.Goals as goal

pub handed-requires-clause-fits : goal.handed-requires-clause-fits
handed-requires-clause-fits c = determinant_fits c.args.w.now c.requires tt tt
