use Rattle.std.proofs.Common.{length, arith, sym, ◌∙◌}
use Rattle.std.proofs.lemmas.List.{take_rest}
use Rattle.std.proofs.Math.Seq.{drop-length}
use Rattle.hall_symbol.proofs.CutLemmas.{spaces-cut, spaces-all}
use Rattle.hall_symbol.proofs.text.skip_spaces.Goals as goal

pub returns-then-b-ne32 : goal.returns-then-b-ne32
returns-then-b-ne32 c = take_rest c.args.text.now c.loop-i.i ∙ sym (spaces-cut c.args.text.now c.loop-i.i (omega arith) c.loop-i.invariant c.if-b-ne32.true)

pub returns : goal.returns
returns c = take_rest c.args.text.now (length c.args.text.now) ∙ drop-length c.args.text.now ∙ sym (spaces-all c.args.text.now (λ k lt. c.loop-i.invariant k (omega arith)))
