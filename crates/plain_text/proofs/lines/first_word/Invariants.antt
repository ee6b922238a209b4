use Rattle.std.proofs.Common.{◌≡◌, ◌<◌, ℕ, get_or, true}
use Rattle.plain_text.specs.Views.{blank_test}
use Rattle.plain_text.proofs.lines.first_word.Given as goal

abbrev pub invariant-loop-i : goal.invariant-loop-i
invariant-loop-i l = (k : ℕ) → k < l.i → blank_test l.blanks (get_or l.line k 0) ≡ true
