use Rattle.std.proofs.Common.{◌≡◌, ◌≤◌, ap, sym, subst, arith}
use Rattle.op_group.specs.Views.{operation_of}
use Rattle.op_group.specs.Lists.{OperationList, HasEntriesAtMost, HasFewMatrices}
use Rattle.op_group.specs.Groups.{IsGroupModulo}
use Rattle.mag_type.specs.MagneticTypes.{HasOnlyZeroTranslation}
use Rattle.group_tests.proofs.PairGroups.{group_of_two, primitive_of_two}
use Rattle.group_tests.proofs.ListedPairs.{pair_list, few_of_two, entries_of_two, two_inserted}
use Rattle.group_tests.proofs.group_maps.group_of_two.Goals.{In_ok-insert-2}
use Rattle.group_tests.proofs.group_maps.group_of_two.Goals as goal

pub all : (c : In_ok-insert-2) → c.insert-then-is_no_pure_translation.new.self.operations ≡ pair_list (operation_of c.args.op)
all c =
    two_inserted (operation_of c.args.op) (operation_of c.nothing.result) c.new-list.result.operations c.insert.new.self.operations c.insert-then-is_no_pure_translation.new.self.operations
    (ap (λ (l : OperationList). l.operations) c.new-list.ensures) c.nothing.ensures c.in_ok-insert.ensures.value c.in_ok-insert-2.ensures.value

pub returns-in_ok-insert-2-clause-group : goal.returns-in_ok-insert-2-clause-group
returns-in_ok-insert-2-clause-group c =
    let some : 1 ≤ c.args.n = omega arith in
    subst (IsGroupModulo c.args.n) (sym (all c))
    (group_of_two c.args.n (operation_of c.args.op) some (c.is_within_cell.ensures c.if-is_within_cell.true) (c.is_own_inverse.ensures c.if-is_own_inverse.true))

pub returns-in_ok-insert-2-clause-primitive : goal.returns-in_ok-insert-2-clause-primitive
returns-in_ok-insert-2-clause-primitive c =
    subst HasOnlyZeroTranslation (sym (all c)) (primitive_of_two (operation_of c.args.op) (c.is_no_pure_translation.ensures c.if-is_no_pure_translation.true))

pub returns-in_ok-insert-2-clause-few : goal.returns-in_ok-insert-2-clause-few
returns-in_ok-insert-2-clause-few c = subst (HasFewMatrices 48) (sym (all c)) (few_of_two (operation_of c.args.op))

pub returns-in_ok-insert-2-clause-entries : goal.returns-in_ok-insert-2-clause-entries
returns-in_ok-insert-2-clause-entries c = subst (HasEntriesAtMost 128) (sym (all c)) (entries_of_two (operation_of c.args.op) c.requires.size)
