use Rattle.std.proofs.Common.{◌≡◌, ℕ, ◌++◌}
use Rattle.generated_cell.specs.GeneratedText.{plane_of, nodes, text_of}
use Rattle.generated_cell.proofs.Loops.{left}
use Rattle.generated_cell.proofs.atoms.push_atoms.Given as goal

-- the lines so far, and those of the atoms that are left
abbrev pub invariant-loop-i : goal.invariant-loop-i
invariant-loop-i l = l.out ++ text_of l.draws (left l.i (λ (i : ℕ). plane_of i)) ≡ l.initial.out ++ text_of l.draws nodes
