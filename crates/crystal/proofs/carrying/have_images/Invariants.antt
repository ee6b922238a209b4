use Rattle.std.proofs.Common.{drop}
use Rattle.positions.specs.Positions.{triple_of}
use Rattle.crystal.specs.Images.{HaveImages}
use Rattle.crystal.proofs.carrying.have_images.Given as goal

-- where the rest have images, all have
abbrev pub invariant-loop-atom : goal.invariant-loop-atom
invariant-loop-atom l =
    HaveImages l.cell l.action.matrix (triple_of l.shift) l.moments (drop l.atom l.cell.atoms) → HaveImages l.cell l.action.matrix (triple_of l.shift) l.moments l.cell.atoms
