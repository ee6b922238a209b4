use Rattle.std.proofs.Common.{arith, refl}
use Rattle.plain_text.proofs.Cutting.{lines-cut, lines-last}
use Rattle.plain_text.proofs.lines.first_line.Goals as goal

pub returns-then-b-eq10-clause-cut : goal.returns-then-b-eq10-clause-cut
returns-then-b-eq10-clause-cut c = lines-cut c.args.text.now _ _ c.loop-i.i (omega arith) c.loop-i.invariant c.if-b-eq10.true c.without_return.ensures refl

pub returns-clause-cut : goal.returns-clause-cut
returns-clause-cut c = lines-last c.args.text.now _ _ c.requires (λ k lt. c.loop-i.invariant k (omega arith)) c.without_return-2.ensures refl
