use Rattle.std.proofs.Common.{◌≡◌, [], length}
use Rattle.plain_text.specs.Text.{words_between_spaces}
use Rattle.hall_symbol.specs.Spelling.{tokens_fault, tokens_in}
use Rattle.hall_symbol.specs.Views.{with_tokens}
use Rattle.hall_symbol.proofs.read.read_tokens.Given as goal

abbrev pub invariant-loop-word : goal.invariant-loop-word
invariant-loop-word l = record {
  faults : tokens_fault l.found.tokens (words_between_spaces l.rest) ≡ tokens_fault [] (words_between_spaces l.text);
  tokens : tokens_in l.found.tokens (words_between_spaces l.rest) ≡ tokens_in [] (words_between_spaces l.text);
  others : l.found ≡ with_tokens l.fn.symbol l.found.tokens;
}

abbrev pub decreases-loop-word : goal.decreases-loop-word
decreases-loop-word l = length l.rest
