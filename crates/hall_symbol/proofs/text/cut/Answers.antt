use Rattle.std.proofs.Common.{length, arith, sym, ◌∙◌}
use Rattle.std.proofs.lemmas.List.{take_rest}
use Rattle.std.proofs.Math.Seq.{drop-length}
use Rattle.hall_symbol.proofs.CutLemmas.{before-cut, from-cut, before-none, from-none}
use Rattle.hall_symbol.proofs.text.cut.Goals as goal

pub returns-then-b-byte-clause-before : goal.returns-then-b-byte-clause-before
returns-then-b-byte-clause-before c = sym (before-cut c.args.byte c.args.text.now c.loop-i.i (omega arith) c.loop-i.invariant c.if-b-byte.true)

pub returns-then-b-byte-clause-from : goal.returns-then-b-byte-clause-from
returns-then-b-byte-clause-from c = take_rest c.args.text.now c.loop-i.i ∙ sym (from-cut c.args.byte c.args.text.now c.loop-i.i (omega arith) c.loop-i.invariant c.if-b-byte.true)

pub returns-clause-before : goal.returns-clause-before
returns-clause-before c = sym (before-none c.args.byte c.args.text.now (λ k lt. c.loop-i.invariant k (omega arith)))

pub returns-clause-from : goal.returns-clause-from
returns-clause-from c = take_rest c.args.text.now (length c.args.text.now) ∙ drop-length c.args.text.now ∙ sym (from-none c.args.byte c.args.text.now (λ k lt. c.loop-i.invariant k (omega arith)))
