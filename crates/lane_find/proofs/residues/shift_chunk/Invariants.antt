use Rattle.std.proofs.Common.{◌+◌}
use Rattle.lane_find.specs.Stretches.{ShiftsBetween}
use Rattle.lane_find.proofs.residues.shift_chunk.Given as goal

abbrev pub invariant-loop-lane : goal.invariant-loop-lane
invariant-loop-lane l = ShiftsBetween l.initial.xs l.xs l.t l.n l.start (l.start + l.lane)
