use Rattle.lane_find.specs.Stretches.{ShiftsBetween}
use Rattle.lane_find.proofs.residues.shift_from.Given as goal

abbrev pub invariant-loop-i : goal.invariant-loop-i
invariant-loop-i l = ShiftsBetween l.initial.xs l.xs l.t l.n l.start l.i
