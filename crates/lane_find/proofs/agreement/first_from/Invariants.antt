use Rattle.lane_find.specs.Stretches.{NoneBetween}
use Rattle.lane_find.proofs.agreement.first_from.Given as goal

abbrev pub invariant-loop-i : goal.invariant-loop-i
invariant-loop-i l = NoneBetween l.xs l.ys l.zs l.x l.y l.z 0 l.i
