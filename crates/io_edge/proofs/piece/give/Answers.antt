use Rattle.std.proofs.Common.{◌≡◌, ap, ◌∙◌, arith, take, drop, ◌-◌, ◌+◌, ◌≤◌, length}
use Rattle.io_edge.proofs.Pieces.{gives_piece}
use Rattle.io_edge.proofs.piece.give.Goals as goal

pub returns-clause-given : goal.returns-clause-given
returns-clause-given c =
    let n = c.min-count.result in
    let at = c.args.at in
    let bytes = c.args.bytes.now in
    let few : n ≤ length bytes - at = omega arith in
    let counted : (at + n) - at ≡ n = omega arith in
    gives_piece bytes c.copy_from_slice.new.self (drop n c.args.buf.now) at n few
    (c.copy_from_slice.ensures.after ∙ ap (λ k. take k (drop at bytes)) counted)
