use Rattle.std.proofs.Common.{refl}
use Rattle.positions.proofs.Rows.{between_is}
use Rattle.positions.proofs.reduction.coordinate_between.Goals as goal

pub returns : goal.returns
returns c = between_is c.args.n c.args.from c.args.onto _ c.requires.at_least refl
