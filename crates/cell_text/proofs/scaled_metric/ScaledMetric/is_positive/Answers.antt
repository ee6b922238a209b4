use Rattle.std.proofs.Common.{◌^◌, sym, subst}
use Rattle.ring.specs.Ring.{int_ops}
use Rattle.ring.specs.Size.{AtMost}
use Rattle.matrix3.specs.Fits.{DeterminantFits}
use Rattle.cell_text.proofs.Minors.{determinant_fits}
use Rattle.cell_text.proofs.scaled_metric.ScaledMetric.is_positive.Goals as goal

pub handed-requires-clause-fits : goal.handed-requires-clause-fits
handed-requires-clause-fits c = subst (DeterminantFits int_ops (AtMost (10 ^ 36))) (sym c.matrix.ensures) (determinant_fits _ c.args.self.now.small)
