use Rattle.std.proofs.Common.{◌≡◌, ◌++◌, drop}
use Rattle.cell_print.specs.CellFileText.{atoms_text}
use Rattle.cell_print.proofs.cell_file.push_atoms.Given as goal

-- the lines so far, and those of the atoms that are left
abbrev pub invariant-loop-i : goal.invariant-loop-i
invariant-loop-i l = l.out ++ atoms_text l.cell (drop l.i l.cell.atoms) ≡ l.initial.out ++ atoms_text l.cell l.cell.atoms
