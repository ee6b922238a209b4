use Rattle.std.proofs.Common.{◌≡◌, ℕ, [], ◌∷◌, ◌++◌}
use Rattle.generated_cell.specs.GeneratedText.{node, row_of, text_of}
use Rattle.generated_cell.proofs.Loops.{left}
use Rattle.generated_cell.proofs.atoms.push_row.Given as goal

-- the lines so far, and those of the atoms that are left
abbrev pub invariant-loop-k : goal.invariant-loop-k
invariant-loop-k l = l.out ++ text_of l.draws (left l.k (λ (k : ℕ). node l.i l.j k ∷ [])) ≡ l.initial.out ++ text_of l.draws (row_of l.i l.j)
