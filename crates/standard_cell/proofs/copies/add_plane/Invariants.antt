use Rattle.standard_cell.specs.Frames.{IsCopy}
use Rattle.standard_cell.specs.Sweeps.{IsAdded, IsOnPlane}
use Rattle.standard_cell.proofs.copies.add_plane.Given as goal

-- the atoms so far are added
abbrev pub invariant-loop-y : goal.invariant-loop-y
invariant-loop-y l = IsAdded l.initial.made.items l.made.items (IsCopy l.frame l.copies) (IsOnPlane l.frame.index l.x l.y)
