use Rattle.std.proofs.Common.{take}
use Rattle.standard_cell.specs.PlaceDivisors.{IsPlaceDivisor}
use Rattle.standard_cell.specs.Frames.{origin_of}
use Rattle.standard_cell.proofs.divisor.place_divisor.Given as goal

-- the divisor of the atoms so far
abbrev pub invariant-loop-i : goal.invariant-loop-i
invariant-loop-i l = IsPlaceDivisor l.cell l.frame.turn (origin_of l.frame) (take l.i l.cell.atoms) l.divisor
