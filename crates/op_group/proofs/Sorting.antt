-- Operations that are put in order and from which equal neighbours are dropped are a list of operations.
use Rattle.std.proofs.Common.{◌≡◌, sym, subst, ℕ, List, map}
use Rattle.std.specs.Prelude.{◌↔◌}
use Rattle.std.specs.List.{dedup}
use Rattle.std.specs.List.Sorted.{IsPermutation, IsSorted}
use Rattle.std.specs.Ordering.{eq_by_cmp, on}
use Rattle.lists.specs.Increasing.{IsIncreasing, IsMember}
use Rattle.lists.proofs.Sorting.{increasing-dedup, members-dedup}
use Rattle.crystal_spec.specs.Operations.{Operation, compare_of}
use Rattle.crystal_spec.proofs.Ordered.{compare_total, compare_exact}
use Rattle.op_group.specs.Views.{operation_of}
use Rattle.op_group.specs.Lists.{AllWithinCell, IsOperationList}
use Rattle.op_group.specs.declared.operation.Op.{Op}

-- what is left of operations in order when equal neighbours are dropped
pub record Sorting (n : ℕ) (xs zs : List Op) : Type 0 where
  pub list : IsOperationList n (map operation_of zs)
  pub exact : (o : Operation) → IsMember o (map operation_of zs) ↔ IsMember o (map operation_of xs)

pub operations_sorted : (n : ℕ) (xs ys zs : List Op) → AllWithinCell n (map operation_of xs) → IsPermutation xs ys → IsSorted (on operation_of compare_of) ys → zs ≡ dedup (eq_by_cmp (on operation_of compare_of)) ys → Sorting n xs zs
operations_sorted n xs ys zs within moved up is =
    let members = members-dedup compare_of compare_total compare_exact operation_of xs ys moved in
    let exact = subst (λ (ws : List Op). (o : Operation) → IsMember o (map operation_of ws) ↔ IsMember o (map operation_of xs)) (sym is) members in
    record {
      list = record {
        ordered = subst (λ (ws : List Op). IsIncreasing compare_of (map operation_of ws)) (sym is) (increasing-dedup compare_of compare_total compare_exact operation_of ys up);
        within_cell = λ o m. within o ((exact o).0 m);
      };
      exact = exact;
    }
