use Rattle.std.proofs.Common.{arith, refl, sym, ◌∙◌}
use Rattle.plain_text.specs.Views.{blank_test}
use Rattle.plain_text.proofs.Cutting.{word-cut, word-last}
use Rattle.plain_text.proofs.lines.split_word.Goals as goal

pub returns-then-is_blank-clause-cut : goal.returns-then-is_blank-clause-cut
returns-then-is_blank-clause-cut c = word-cut (blank_test c.args.blanks) c.args.text.now _ c.loop-i.i c.requires (omega arith) c.loop-i.invariant (sym c.is_blank.ensures ∙ c.if-is_blank.true) refl

pub returns-clause-cut : goal.returns-clause-cut
returns-clause-cut c = word-last (blank_test c.args.blanks) c.args.text.now _ c.requires (λ k lt. c.loop-i.invariant k (omega arith)) refl
