use Rattle.std.proofs.Common.{arith, length-drop, subst, ℕ, List, take, ap, length}
use Rattle.std.specs.Io.KnownBytes.{Appends}
use Rattle.io_edge.proofs.Pieces.{then_appended, rest_of}
use Rattle.io_edge.proofs.sink.write_whole.Goals as goal

pub loop-at-preserved : goal.loop-at-preserved
loop-at-preserved g c =
    let rest = rest_of c.args.bytes.now c.loop-at.at in
    let piece = subst (λ (zs : List ℕ). Appends (g.K.Sink.state c.loop-at.sink).held (g.K.Sink.state c.write.new.self).held (take c.in-Ok.count zs)) rest c.in-Ok.ensures.written in
    let some = c.in-Ok.ensures.some in
    record {
      out = then_appended _ _ _ c.args.bytes.now c.loop-at.at c.in-Ok.count c.loop-at.invariant.out piece;
      within = omega (arith, some, ap length rest, length-drop c.loop-at.at c.args.bytes.now);
      later = omega (arith, c.write.ensures.cause.later, c.loop-at.invariant.later);
      untouched = λ e. absurd (omega (arith, some, e));
    }
