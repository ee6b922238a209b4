use Rattle.std.proofs.Common.{sym, ap, ◌∙◌}
use Rattle.std.specs.declared.cmp.Ordering.{Ordering}
use Rattle.std.specs.Ordering.{ordering_then}
use Rattle.op_group.proofs.OrderLemmas.{matrix_cmp}
use Rattle.crystal_compare.proofs.Order.{compare_of_parts}
use Rattle.crystal_compare.proofs.whole_map.compare.Goals as goal

pub returns : goal.returns
returns c =
    c.then-2.ensures
    ∙ ap (λ (o : Ordering). ordering_then o c.cmp-3.result) (c.then.ensures ∙ ap (λ (o : Ordering). ordering_then o c.cmp-2.result) c.cmp.ensures ∙ ap (ordering_then (matrix_cmp c.args.a.now.w c.args.b.now.w)) c.cmp-2.ensures)
    ∙ ap (ordering_then _) c.cmp-3.ensures
    ∙ sym (compare_of_parts c.args.a.now c.args.b.now _ _ c.sign_rank.ensures c.sign_rank-2.ensures)
