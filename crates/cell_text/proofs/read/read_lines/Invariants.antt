use Rattle.std.proofs.Common.{◌≡◌, ◌+◌, ◌≤◌, ℕ, List, ◌++◌, length}
use Rattle.plain_text.specs.Text.{lines}
use Rattle.cell_text.specs.Entries.{state_after}
use Rattle.cell_text.specs.Rules.{first_fault, cell_fault}
use Rattle.cell_text.proofs.read.read_lines.Given as goal

-- the lines before, and what the reader makes of them
abbrev pub invariant-loop-rest : goal.invariant-loop-rest
invariant-loop-rest l = record {
  before : List (List ℕ);
  whole : before ++ lines l.rest ≡ lines l.text;
  so_far : first_fault before (lines l.rest) ≡ cell_fault l.text;
  state : l.reader ≡ state_after before;
  number : l.number ≡ length before + 1;
  short : length before + length l.rest ≤ length l.text;
}

abbrev pub decreases-loop-rest : goal.decreases-loop-rest
decreases-loop-rest l = length l.rest
