use Rattle.std.proofs.Common.{◌∙◌}
use Rattle.std.proofs.lemmas.List.{length-set}
use Rattle.generated_cell.proofs.Draws.{draws_more, draws_all}
use Rattle.generated_cell.proofs.generator.draws.Goals as goal

pub loop-c-preserved : goal.loop-c-preserved
loop-c-preserved c = record {
  count = length-set c.loop-c.draws c.loop-c.c c.draw.result ∙ c.loop-c.invariant.count;
  drawn = draws_more c.loop-c.draws c.loop-c.c c.loop-c.generator c.draw.new.self c.draw.result _ c.loop-c-test.true c.loop-c.invariant.count c.loop-c.invariant.drawn c.draw.ensures.state c.draw.ensures.value;
}

pub returns : goal.returns
returns c = draws_all c.loop-c.draws c.loop-c.c c.loop-c.generator _ c.loop-c-test.false c.loop-c.invariant.count c.loop-c.invariant.drawn
