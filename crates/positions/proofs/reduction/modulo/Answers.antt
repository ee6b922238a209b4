use Rattle.crystal_spec.proofs.Entrywise.{triple_same}
use Rattle.positions.specs.Positions.{modulo}
use Rattle.positions.proofs.reduction.modulo.Goals as goal

pub returns : goal.returns
unfolding modulo
returns c = triple_same c.coordinate_modulo.ensures c.coordinate_modulo-2.ensures c.coordinate_modulo-3.ensures
