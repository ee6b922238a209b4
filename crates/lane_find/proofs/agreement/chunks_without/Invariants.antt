use Rattle.std.proofs.Common.{◌*◌}
use Rattle.lane_find.specs.Stretches.{NoneBetween}
use Rattle.lane_find.proofs.agreement.chunks_without.Given as goal

abbrev pub invariant-loop-chunk : goal.invariant-loop-chunk
invariant-loop-chunk l = NoneBetween l.xs l.ys l.zs l.x l.y l.z 0 (l.chunk * 16)
