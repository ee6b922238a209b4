use Rattle.std.proofs.Common.{rules}
use Rattle.std.specs.Ordering.{eq_by_cmp, is_lt, on}
use Rattle.std.proofs.lemmas.Fn.{always_returns_same, dedup_same}
use Rattle.std.proofs.lemmas.List.Sorted.{ranks_by}
use Rattle.crystal_spec.specs.Operations.{compare_of}
use Rattle.crystal_spec.proofs.Ordered.{compare_total}
use Rattle.op_group.specs.Views.{operation_of}
use Rattle.op_group.proofs.Sorting.{operations_sorted}
use Rattle.op_group.proofs.list.OpList.sorted.Goals as goal

-- put in order, and then without equal neighbours
pub invariant_of-result : goal.invariant_of-result
invariant_of-result c =
    let up = c.in_ok-sort_by.ensures.sorted (λ x y. is_lt (on operation_of compare_of x y)) (ranks_by compare_total operation_of) (always_returns_same _ _ _ (λ a r f called. search rules)) in
    let kept = dedup_same _ (eq_by_cmp (on operation_of compare_of)) _ (λ x y b f x' y' k. search rules) _ _ c.dedup_by.ensures.filtered in
    (operations_sorted c.args.n c.args.ops.items _ _ c.requires.below_n c.in_ok-sort_by.ensures.permutation up kept).list

pub returns-clause-exact : goal.returns-clause-exact
returns-clause-exact c =
    let up = c.in_ok-sort_by.ensures.sorted (λ x y. is_lt (on operation_of compare_of x y)) (ranks_by compare_total operation_of) (always_returns_same _ _ _ (λ a r f called. search rules)) in
    let kept = dedup_same _ (eq_by_cmp (on operation_of compare_of)) _ (λ x y b f x' y' k. search rules) _ _ c.dedup_by.ensures.filtered in
    (operations_sorted c.args.n c.args.ops.items _ _ c.requires.below_n c.in_ok-sort_by.ensures.permutation up kept).exact
