use Rattle.std.proofs.Common.{◌≡◌, ℕ, ◌≤◌, List, [], sym, ap, subst, ◌∙◌, arith}
use Rattle.lists.specs.Increasing.{inserted}
use Rattle.crystal_spec.specs.Operations.{Operation, compare_of}
use Rattle.op_group.specs.Views.{operation_of}
use Rattle.op_group.specs.Lists.{OperationList}
use Rattle.op_group.specs.Composition.{identity_operation}
use Rattle.op_group.specs.Groups.{IsGroupModulo}
use Rattle.mag_type.specs.MagneticTypes.{HasOnlyZeroTranslation}
use Rattle.group_tests.proofs.PairGroups.{group_of_two, primitive_of_two}
use Rattle.group_tests.proofs.magnetic_types.kind_of_two.Goals as goal

-- what two insertions make
two_inserted : (o p : Operation) (empty first second : List Operation) → empty ≡ [] → p ≡ identity_operation → first ≡ inserted compare_of p empty → second ≡ inserted compare_of o first → second ≡ inserted compare_of o (inserted compare_of identity_operation [])
two_inserted o p empty first second e i f g = g ∙ ap (inserted compare_of o) (f ∙ ap (inserted compare_of p) e ∙ ap (λ (x : Operation). inserted compare_of x []) i)

pub classify-requires-clause-group : goal.classify-requires-clause-group
classify-requires-clause-group c =
    let o = operation_of c.args.op in
    let some : 1 ≤ c.args.n = omega arith in
    let all = two_inserted o (operation_of c.nothing.result) c.new-list.result.operations c.insert.new.self.operations c.insert-then-is_no_pure_translation.new.self.operations
    (ap (λ (l : OperationList). l.operations) c.new-list.ensures) c.nothing.ensures c.in_ok-insert.ensures.value c.in_ok-insert-2.ensures.value in
    let n = c.in_ok-insert-2.ensures.n ∙ c.in_ok-insert.ensures.n ∙ ap (λ (l : OperationList). l.n) c.new-list.ensures in
    subst (λ (k : ℕ). IsGroupModulo k c.insert-then-is_no_pure_translation.new.self.operations) (sym n) (subst (IsGroupModulo c.args.n) (sym all)
    (group_of_two c.args.n o some (c.is_within_cell.ensures c.if-is_within_cell.true) (c.is_own_inverse.ensures c.if-is_own_inverse.true)))

pub classify-requires-clause-primitive : goal.classify-requires-clause-primitive
classify-requires-clause-primitive c =
    let o = operation_of c.args.op in
    let all = two_inserted o (operation_of c.nothing.result) c.new-list.result.operations c.insert.new.self.operations c.insert-then-is_no_pure_translation.new.self.operations
    (ap (λ (l : OperationList). l.operations) c.new-list.ensures) c.nothing.ensures c.in_ok-insert.ensures.value c.in_ok-insert-2.ensures.value in
    subst HasOnlyZeroTranslation (sym all) (primitive_of_two o (c.is_no_pure_translation.ensures c.if-is_no_pure_translation.true))
