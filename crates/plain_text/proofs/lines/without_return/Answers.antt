use Rattle.std.proofs.Common.{◌≡◌, ◌-◌, length, sym, arith}
use Rattle.plain_text.proofs.Cutting.{without_last-kept, without_last-dropped}
use Rattle.plain_text.proofs.lines.without_return.Goals as goal

pub returns-then-piece-len-ne13 : goal.returns-then-piece-len-ne13
returns-then-piece-len-ne13 c = sym (without_last-kept 13 c.args.piece.now (λ n len e.
    let last : length c.args.piece.now - 1 ≡ n = omega arith in
    c.if-piece-len-ne13.true (rw last e)))

pub returns : goal.returns
returns c = sym (without_last-dropped 13 c.args.piece.now (length c.args.piece.now - 1) (omega arith) c.if-piece-len-ne13.false)
