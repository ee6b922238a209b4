use Rattle.crystal_spec.proofs.Entrywise.{triple_same}
use Rattle.positions.specs.Positions.{modulo}
use Rattle.positions.proofs.reduction.between.Goals as goal

pub returns : goal.returns
unfolding modulo
returns c = triple_same c.coordinate_between.ensures c.coordinate_between-2.ensures c.coordinate_between-3.ensures
