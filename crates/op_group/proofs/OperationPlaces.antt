-- Where an operation is in an increasing list, and what putting it there makes.
use Rattle.std.proofs.Common.{◌≡◌, sym, subst, inl, inr, ℕ, List}
use Rattle.lists.specs.Increasing.{IsIncreasing, IsMember, inserted}
use Rattle.lists.proofs.Increasing.{IsIncreasing-inserted, IsMember-inserted, inserted_member}
use Rattle.crystal_spec.specs.Operations.{Operation, compare_of, IsWithinCell}
use Rattle.crystal_spec.proofs.Ordered.{compare_total, compare_exact}
use Rattle.op_group.specs.Lists.{IsOperationList}

-- an operation within the cell that is put in its place leaves all within the cell, in order
pub operation_list_inserted : (n : ℕ) (o : Operation) (os : List Operation) → IsWithinCell n o.translation → IsOperationList n os → IsOperationList n (inserted compare_of o os)
operation_list_inserted n o os within list = record {
  ordered = IsIncreasing-inserted compare_total o os list.ordered;
  within_cell = λ p m. elim ((IsMember-inserted compare_exact o os p).0 m) [
    | inl e ↦ subst (λ (q : Operation). IsWithinCell n q.translation) (sym e) within
    | inr old ↦ list.within_cell p old
  ];
}

-- an operation that was there is not put in again
pub operation_inserted_member : (o : Operation) (os : List Operation) → IsIncreasing compare_of os → IsMember o os → os ≡ inserted compare_of o os
operation_inserted_member o os increasing there = sym (inserted_member compare_of compare_total o os increasing there)
