use Rattle.exact_num.specs.Meanings.{fraction_of}
use Rattle.matrix3.proofs.InverseLemmas.{fails, numerator_not_zero, adjugate_inverse_fractions}
use Rattle.matrix3.proofs.inverse.Mat3+Frac.inverse.Goals as goal

pub quotients-requires-clause-nonzero : goal.quotients-requires-clause-nonzero
quotients-requires-clause-nonzero c =
    let d = c.handed-determinant.result in
    numerator_not_zero (fraction_of d) d.lowest (fails c.is_zero.result c.is_zero.ensures c.if-is_zero.false)

pub returns-else-is_zero-clause-found : goal.returns-else-is_zero-clause-found
returns-else-is_zero-clause-found c =
    adjugate_inverse_fractions c.args.self.now c.handed-determinant.result c.adjugate.result c.quotients.result (fails c.is_zero.result c.is_zero.ensures c.if-is_zero.false) c.handed-determinant.ensures.value c.adjugate.ensures.value c.quotients.ensures
