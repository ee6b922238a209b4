use Rattle.std.proofs.Common.{◌≡◌, ◌++◌, drop}
use Rattle.report_text.specs.OrbitText.{atom_lines}
use Rattle.report_text.proofs.orbit_lines.push_atoms.Given as goal

-- the lines so far, and those of the atoms that are left
abbrev pub invariant-loop-i : goal.invariant-loop-i
invariant-loop-i l = l.out ++ atom_lines l.cell.names l.i (drop l.i l.cell.atoms) (drop l.i l.orbits) ≡ l.initial.out ++ atom_lines l.cell.names 0 l.cell.atoms l.orbits
