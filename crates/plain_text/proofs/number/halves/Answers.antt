use Rattle.std.proofs.Common.{sym, arith, ◌∙◌, ◌+◌, ap, drop, ℕ, add-one}
use Rattle.std.proofs.lemmas.List.{take_rest}
use Rattle.plain_text.proofs.DigitLemmas.{mark-cut, mark-none}
use Rattle.plain_text.proofs.number.halves.Goals as goal

pub returns-then-b-mark-clause-before : goal.returns-then-b-mark-clause-before
returns-then-b-mark-clause-before c = sym (mark-cut c.args.mark c.args.other.now c.args.word.now c.loop-i.i (omega arith) c.loop-i.invariant c.if-b-mark.true).0

pub returns-then-b-mark-clause-behind : goal.returns-then-b-mark-clause-behind
returns-then-b-mark-clause-behind c =
    take_rest c.args.word.now (c.loop-i.i + 1) ∙ ap (λ (j : ℕ). drop j c.args.word.now) (add-one c.loop-i.i) ∙ sym (mark-cut c.args.mark c.args.other.now c.args.word.now c.loop-i.i (omega arith) c.loop-i.invariant c.if-b-mark.true).1

pub returns-clause-before : goal.returns-clause-before
returns-clause-before c = sym (mark-none c.args.mark c.args.other.now c.args.word.now (λ k lt. c.loop-i.invariant k (omega arith))).0

pub returns-clause-behind : goal.returns-clause-behind
returns-clause-behind c = sym (mark-none c.args.mark c.args.other.now c.args.word.now (λ k lt. c.loop-i.invariant k (omega arith))).1
