use Rattle.standard_cell.specs.Frames.{IsCopy}
use Rattle.standard_cell.specs.Sweeps.{IsAdded, IsInSpace}
use Rattle.standard_cell.proofs.copies.add_copies.Given as goal

-- the atoms so far are added
abbrev pub invariant-loop-x : goal.invariant-loop-x
invariant-loop-x l = IsAdded l.initial.made.items l.made.items (IsCopy l.frame l.copies) (IsInSpace l.frame.index l.x)
