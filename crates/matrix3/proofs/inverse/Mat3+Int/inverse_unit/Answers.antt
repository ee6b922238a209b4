use Rattle.matrix3.proofs.InverseLemmas.{adjugate_times_unit_fits, adjugate_inverse_integers}
use Rattle.matrix3.proofs.inverse.Mat3+Int.inverse_unit.Goals as goal

pub multiple-requires : goal.multiple-requires
multiple-requires c =
    adjugate_times_unit_fits c.args.self.now c.handed.result c.adjugate.result c.requires.unit_determinant c.handed.ensures.value c.adjugate.ensures.value c.requires.adjugate_fits

pub returns : goal.returns
returns c =
    adjugate_inverse_integers c.args.self.now c.handed.result c.adjugate.result c.requires.unit_determinant c.handed.ensures.value c.adjugate.ensures.value c.multiple.result c.multiple.ensures
