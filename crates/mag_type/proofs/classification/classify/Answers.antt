use Rattle.std.proofs.Common.{sym, subst}
use Rattle.lists.proofs.Increasing.{increasing_distinct}
use Rattle.crystal_spec.specs.Operations.{compare_of}
use Rattle.crystal_spec.proofs.Ordered.{compare_total}
use Rattle.mag_type.specs.Families.{IsUnprimed, IsNumberOf}
use Rattle.mag_type.proofs.FamilyOrders.{unprimed_number}
use Rattle.mag_type.proofs.OneType.{one_type}
use Rattle.mag_type.proofs.classification.classify.Goals as goal

pub returns-clause-unprimed : goal.returns-clause-unprimed
returns-clause-unprimed c =
    let os = c.args.list.now.operations in
    subst (IsNumberOf (IsUnprimed os)) (sym c.unprimed_count.ensures)
    (unprimed_number c.ops.result.now os c.ops.ensures (increasing_distinct compare_of compare_total os c.invariant.ensures.ordered))

-- a group without a further translation has one type
pub returns-clause-only : goal.returns-clause-only
returns-clause-only c k other =
    one_type c.args.list.now.n c.args.list.now.operations c.requires.group c.requires.primitive k _ other c.magnetic_type.ensures
