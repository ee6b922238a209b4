use Rattle.std.proofs.Common.{◌≡◌, sym, ap, ◌∙◌, length, arith}
use Rattle.std.specs.declared.cmp.Ordering.{Ordering}
use Rattle.std.specs.Ordering.{ordering_then}
use Rattle.op_group.proofs.OrderLemmas.{compare_of_parts, matrix_cmp}
use Rattle.op_group.proofs.operation.compare.Goals as goal

pub returns : goal.returns
returns c =
    let three_a : length c.args.a.now.shift ≡ 3 = omega arith in
    let three_b : length c.args.b.now.shift ≡ 3 = omega arith in
    c.then-2.ensures
    ∙ ap (λ (o : Ordering). ordering_then o c.cmp-3.result) (c.then.ensures ∙ ap (λ (o : Ordering). ordering_then o c.cmp-2.result) c.cmp.ensures ∙ ap (ordering_then (matrix_cmp c.args.a.now.w c.args.b.now.w)) c.cmp-2.ensures)
    ∙ ap (ordering_then _) c.cmp-3.ensures
    ∙ sym (compare_of_parts c.args.a.now c.args.b.now _ _ three_a three_b c.sign_rank.ensures c.sign_rank-2.ensures)
