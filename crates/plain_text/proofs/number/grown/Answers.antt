use Rattle.plain_text.proofs.Multiples.{grown_is, past_one, past_two}
use Rattle.plain_text.proofs.number.grown.Goals as goal

pub returns : goal.returns
returns c = (grown_is c.args.d c.args.x.now.den c.args.y.now.den c.args.z.now.den c.in-Some.one c.in-Some-common_multiple.two _ c.in-Some.ensures.0 c.in-Some-common_multiple.ensures.0 c.in-Some-common_multiple-2.ensures.0, c.in-Some-common_multiple-2.ensures.1)

pub returns-in_default : goal.returns-in_default
returns-in_default c = past_one c.args.d c.args.x.now.den c.args.y.now.den c.args.z.now.den c.args.bound c.requires c.args.x.now.positive c.args.y.now.positive c.args.z.now.positive c.in_default.ensures

pub returns-in_default-common_multiple : goal.returns-in_default-common_multiple
returns-in_default-common_multiple c = past_two c.args.d c.args.x.now.den c.args.y.now.den c.args.z.now.den c.in-Some.one c.args.bound c.args.y.now.positive c.args.z.now.positive c.in-Some.ensures.0 c.in_default-common_multiple.ensures
