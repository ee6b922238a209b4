use Rattle.matrix3.proofs.FitsBySize.{product_fits}
use Rattle.group_tests.proofs.operations.in_turn.Goals as goal

pub compose-requires-clause-fits : goal.compose-requires-clause-fits
compose-requires-clause-fits c = product_fits _ _ c.operation-next.ensures c.operation-first.ensures tt
