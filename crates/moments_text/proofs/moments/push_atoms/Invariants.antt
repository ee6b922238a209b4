use Rattle.std.proofs.Common.{◌≡◌, ◌+◌, ◌++◌, drop}
use Rattle.moments_text.specs.MomentsText.{atom_lines}
use Rattle.moments_text.proofs.moments.push_atoms.Given as goal

-- the lines so far, and those of the atoms that are left
abbrev pub invariant-loop-i : goal.invariant-loop-i
invariant-loop-i l = l.out ++ atom_lines l.cell.kind l.cell.names (l.i + 1) (drop l.i l.cell.atoms) (drop l.i l.orbits) ≡ l.initial.out ++ atom_lines l.cell.kind l.cell.names 1 l.cell.atoms l.orbits
