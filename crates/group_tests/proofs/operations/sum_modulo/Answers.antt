use Rattle.std.proofs.Common.{refl}
use Rattle.crystal_spec.proofs.Entrywise.{triple_same}
use Rattle.positions.specs.Positions.{modulo}
use Rattle.group_tests.proofs.operations.sum_modulo.Goals as goal

pub returns : goal.returns
unfolding modulo
returns c = triple_same refl refl refl
