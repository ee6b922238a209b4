use Rattle.std.proofs.Common.{◌≡◌, ◌<◌, ℕ, get_or, false}
use Rattle.plain_text.specs.Views.{blank_test}
use Rattle.plain_text.proofs.lines.split_word.Given as goal

abbrev pub invariant-loop-i : goal.invariant-loop-i
invariant-loop-i l = (k : ℕ) → k < l.i → blank_test l.blanks (get_or l.text k 0) ≡ false
