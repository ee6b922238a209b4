use Rattle.std.proofs.Common.{◌+◌}
use Rattle.std.specs.Bool.{OnTrue, OnFalse}
use Rattle.lane_find.specs.Stretches.{NoneBetween, SomeBetween}
use Rattle.lane_find.proofs.agreement.agrees_in_chunk.Given as goal

abbrev pub invariant-loop-lane : goal.invariant-loop-lane
invariant-loop-lane l = record {
  found : OnTrue l.any (SomeBetween l.xs l.ys l.zs l.x l.y l.z l.start (l.start + l.lane));
  absent : OnFalse l.any (NoneBetween l.xs l.ys l.zs l.x l.y l.z l.start (l.start + l.lane));
}
