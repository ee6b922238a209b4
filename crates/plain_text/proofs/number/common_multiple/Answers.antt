use Rattle.plain_text.proofs.Multiples.{found}
use Rattle.plain_text.proofs.number.common_multiple.Goals as goal

pub returns : goal.returns
returns c = found c.args.a c.args.b c.args.bound c.lcm_within.result c.requires.a c.requires.b c.lcm_within.ensures.value c.lcm_within.ensures.exact
