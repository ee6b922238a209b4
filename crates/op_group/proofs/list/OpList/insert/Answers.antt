use Rattle.std.proofs.Common.{rules, ◌≡◌, ℕ, ap, sym, subst, map}
use Rattle.lists.specs.Increasing.{inserted}
use Rattle.crystal_spec.specs.Operations.{compare_of, IsWithinCell}
use Rattle.op_group.specs.Views.{operation_of}
use Rattle.positions.specs.Positions.{triple_of}
use Rattle.op_group.specs.Lists.{OperationList, IsOperationList}
use Rattle.op_group.proofs.OperationPlaces.{operation_list_inserted, operation_inserted_member}
use Rattle.op_group.proofs.list.OpList.insert.Goals as goal

-- what was put in its place
pub invariant_of-self-in-Err : goal.invariant_of-self-in-Err
invariant_of-self-in-Err c =
    let placed : map operation_of c.insert.new.self.items ≡ inserted compare_of (operation_of c.args.op) (map operation_of c.self.inside.items.items) = search rules in
    let within = subst (λ (n : ℕ). IsWithinCell n (triple_of c.args.op.shift)) (sym (ap (λ (l : OperationList). l.n) c.self.view_is)) c.requires.below_n in
    subst (IsOperationList c.self.inside.n) (sym placed) (operation_list_inserted c.self.inside.n (operation_of c.args.op) _ within c.self.invariant)

-- it was there
pub returns-in-Ok-clause-value : goal.returns-in-Ok-clause-value
returns-in-Ok-clause-value c =
    let same = operation_inserted_member (operation_of c.args.op) (map operation_of c.self.inside.items.items) c.self.invariant.ordered (search rules) in
    subst (λ (l : OperationList). l.operations ≡ inserted compare_of (operation_of c.args.op) l.operations) c.self.view_is same
