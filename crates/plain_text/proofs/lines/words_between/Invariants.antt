use Rattle.std.proofs.Common.{◌≡◌, ◌++◌, length, map}
use Rattle.plain_text.specs.Text.{words_between}
use Rattle.plain_text.specs.Views.{blank_test}
use Rattle.plain_text.proofs.lines.words_between.Given as goal

abbrev pub invariant-loop-word : goal.invariant-loop-word
invariant-loop-word l = map (λ w. w.now) l.found.items ++ words_between (blank_test l.blanks) l.rest ≡ words_between (blank_test l.blanks) l.line

abbrev pub decreases-loop-word : goal.decreases-loop-word
decreases-loop-word l = length l.rest
