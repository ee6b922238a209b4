use Rattle.std.proofs.Common.{ℕ, get_or, ap}
use Rattle.generated_cell.proofs.TextPieces.{atom_from_pieces}
use Rattle.generated_cell.proofs.atoms.push_atom.Goals as goal

pub returns : goal.returns
returns c =
    let ds = c.args.draws.now in
    atom_from_pieces ds c.args.i c.args.j c.args.k (get_or ds c.class_of.result 0) c.args.out.now _ _ _ _ _ _ _ _
    (ap (λ (n : ℕ). get_or ds n 0) c.class_of.ensures.value)
    c.in_ok-append.ensures.value c.in_ok-push_eighths.ensures c.in_ok-push.ensures.value c.in_ok-push_eighths-2.ensures c.in_ok-push-2.ensures.value
    c.in_ok-push_eighths-3.ensures c.in_ok-push_moment.ensures c.in_ok-push-3.ensures.value
