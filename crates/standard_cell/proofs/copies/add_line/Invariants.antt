use Rattle.standard_cell.specs.Frames.{IsCopy}
use Rattle.standard_cell.specs.Sweeps.{IsAdded, IsOnLine}
use Rattle.standard_cell.proofs.copies.add_line.Given as goal

-- the atoms so far are added
abbrev pub invariant-loop-z : goal.invariant-loop-z
invariant-loop-z l = IsAdded l.initial.made.items l.made.items (IsCopy l.frame l.copies) (IsOnLine l.x l.y l.z)
