use Rattle.standard_cell.proofs.Commons.{common_with}
use Rattle.standard_cell.proofs.divisor.common_with.Goals as goal

pub common-second-requires : goal.common-second-requires
common-second-requires c = c.common-first.ensures.positive

pub common-requires : goal.common-requires
common-requires c = c.common-second.ensures.positive

pub returns : goal.returns
returns c = common_with c.args.g c.args.v.now c.common-first.result c.common-second.result c.common.result c.common-first.ensures c.common-second.ensures c.common.ensures
