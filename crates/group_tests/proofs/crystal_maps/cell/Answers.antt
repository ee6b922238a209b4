use Rattle.group_tests.proofs.TestedCells.{sizes_of_one}
use Rattle.group_tests.proofs.crystal_maps.cell.Goals as goal

pub returns : goal.returns
returns c = sizes_of_one _ _ _ _ _ _ _ _ c.in_ok-cell.ensures c.scale-scale.ensures.at_most c.metric-metric.ensures.entries c.atom-first.ensures.small
