use Rattle.std.proofs.Common.{◌≡◌, take}
use Rattle.prim_cell.specs.Rebasing.{with_atoms}
use Rattle.prim_cell.proofs.rebased.add_atoms.Given as goal

-- the atoms so far are there
abbrev pub invariant-loop-i : goal.invariant-loop-i
invariant-loop-i l = l.made ≡ with_atoms l.initial.made l.cell l.r (take l.i l.cell.atoms)
