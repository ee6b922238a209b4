use Rattle.std.proofs.Common.{length, arith, refl, sym, ◌∙◌, length-drop}
use Rattle.std.proofs.lemmas.List.{take_rest}
use Rattle.std.proofs.Math.Seq.{drop-length}
use Rattle.plain_text.specs.Views.{blank_test}
use Rattle.plain_text.proofs.Cutting.{words-skip, starts}
use Rattle.plain_text.proofs.lines.first_word.Goals as goal

pub split_word-requires : goal.split_word-requires
split_word-requires c = rw (take_rest c.args.line.now c.loop-i.i) (starts (blank_test c.args.blanks) c.args.line.now c.loop-i.i (omega arith) (sym c.is_blank.ensures ∙ c.if-not-is_blank.true))

pub returns-then-not-is_blank : goal.returns-then-not-is_blank
returns-then-not-is_blank c =
    let rest = take_rest c.args.line.now c.loop-i.i in
    (words-skip (blank_test c.args.blanks) c.args.line.now c.loop-i.i (omega arith) c.loop-i.invariant ∙ rw rest at c.split_word.ensures.cut, omega (arith, rw rest at c.split_word.ensures.shorter, length-drop c.loop-i.i c.args.line.now))

pub returns : goal.returns
returns c = words-skip (blank_test c.args.blanks) c.args.line.now (length c.args.line.now) (omega arith) (λ k lt. c.loop-i.invariant k (omega arith)) ∙ rw (drop-length c.args.line.now) refl
