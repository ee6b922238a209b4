use Rattle.std.proofs.Common.{◌≡◌, ℕ, ◌++◌}
use Rattle.generated_cell.specs.GeneratedText.{row_of, plane_of, text_of}
use Rattle.generated_cell.proofs.Loops.{left}
use Rattle.generated_cell.proofs.atoms.push_plane.Given as goal

-- the lines so far, and those of the atoms that are left
abbrev pub invariant-loop-j : goal.invariant-loop-j
invariant-loop-j l = l.out ++ text_of l.draws (left l.j (λ (j : ℕ). row_of l.i j)) ≡ l.initial.out ++ text_of l.draws (plane_of l.i)
