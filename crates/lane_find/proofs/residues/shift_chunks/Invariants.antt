use Rattle.std.proofs.Common.{◌*◌}
use Rattle.lane_find.specs.Stretches.{ShiftsBetween}
use Rattle.lane_find.proofs.residues.shift_chunks.Given as goal

abbrev pub invariant-loop-chunk : goal.invariant-loop-chunk
invariant-loop-chunk l = ShiftsBetween l.initial.xs l.xs l.t l.n 0 (l.chunk * 16)
