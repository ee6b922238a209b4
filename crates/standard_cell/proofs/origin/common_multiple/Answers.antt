use Rattle.standard_cell.proofs.CommonMultiples.{found, positive, within, past}
use Rattle.standard_cell.proofs.origin.common_multiple.Goals as goal

pub returns : goal.returns
returns c = record {
  found = found c.args.a c.args.b c.lcm_within.result c.requires.b c.lcm_within.ensures.value;
  positive = positive c.args.a c.args.b c.lcm_within.result c.requires.a c.requires.b c.lcm_within.ensures.value;
  bound = within c.args.a c.args.b 1000000000000 c.lcm_within.result c.lcm_within.ensures.value c.lcm_within.ensures.exact;
  absent = past c.args.a c.args.b 1000000000000 c.lcm_within.result c.requires.b c.lcm_within.ensures.exact;
}
