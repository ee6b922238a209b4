use Rattle.std.proofs.Common.{rules, ◌≡◌, inl, inr, ◌<◌, ℕ, List, [], ◌∷◌, ◌++◌, map, sym, subst, arith}
use Rattle.std.specs.Prelude.{slice_index}
use Rattle.std.proofs.lemmas.Int.{ints}
use Rattle.std.proofs.lemmas.List.{map_push}
use Rattle.crystal_spec.specs.Operations.{Operation, IsWithinCell}
use Rattle.op_group.specs.Lists.{AllWithinCell}
use Rattle.op_group.specs.Views.{operation_of}
use Rattle.positions.specs.Positions.{triple_of}
use Rattle.op_group.specs.declared.operation.Op.{Op}
use Rattle.group_tests.proofs.operations.put_in_order.Goals.{then-x-lt4+then-y-lt4+then-z-lt4+in_ok-push, else-x-lt4}
use Rattle.group_tests.proofs.operations.put_in_order.Goals as goal

all_within_pushed : (n : ℕ) (os : List Operation) (p : Operation) → AllWithinCell n os → IsWithinCell n p.translation → AllWithinCell n (os ++ p ∷ [])
all_within_pushed n [] p all within o (inl e) = subst (λ (q : Operation). IsWithinCell n q.translation) (sym e) within
all_within_pushed n [] p all within o (inr m) = absurd m
all_within_pushed n (q ∷ os) p all within o (inl e) = all o (inl e)
all_within_pushed n (q ∷ os) p all within o (inr m) = all_within_pushed n os p (λ r k. all r (inr k)) within o m

below : (n : ℕ) (ts : List ℕ) → slice_index ts 0 < n → slice_index ts 1 < n → slice_index ts 2 < n → IsWithinCell n (triple_of ts)
below n ts x y z = record { x = (omega (arith, ints), omega (arith, ints)); y = (omega (arith, ints), omega (arith, ints)); z = (omega (arith, ints), omega (arith, ints)) }

pub loop-item-preserved : goal.loop-item-preserved
loop-item-preserved c =
    let op = c.operation-op.result in
    let P : List Op → Type 0 = λ l. AllWithinCell 4 (map operation_of l) in
    elim c.if-x-lt4.branch [
      | then-x-lt4+then-y-lt4+then-z-lt4+in_ok-push w ↦
          let items : c.if-x-lt4.kept.items ≡ c.loop-item.kept.items ++ op ∷ [] = search rules in
          let x : slice_index op.shift 0 < 4 = search rules in
          let y : slice_index op.shift 1 < 4 = search rules in
          let z : slice_index op.shift 2 < 4 = search rules in
          subst P (sym items) (subst (AllWithinCell 4) (sym (map_push operation_of c.loop-item.kept.items op)) (all_within_pushed 4 _ (operation_of op) c.loop-item.invariant (below 4 op.shift x y z)))
      | else-x-lt4 w ↦
          let items : c.if-x-lt4.kept.items ≡ c.loop-item.kept.items = search rules in
          subst P (sym items) c.loop-item.invariant
    ]
