use Rattle.std.proofs.Common.{sym, ◌∙◌, map}
use Rattle.op_group.specs.Views.{operation_of}
use Rattle.group_match.proofs.Outcomes.{on_true, on_false}
use Rattle.group_match.proofs.Unprimed.{some_unprimed, none_unprimed}
use Rattle.group_match.proofs.member.has_unprimed.Goals as goal

pub returns-clause-found : goal.returns-clause-found
returns-clause-found c =
    on_true c.is_some.result (λ t. some_unprimed (map operation_of c.args.ops.now) c.args.v.now c.member_of.result (sym c.is_some.ensures ∙ t) c.member_of.ensures.member c.member_of.ensures.matrix c.member_of.ensures.sign)

pub returns-clause-absent : goal.returns-clause-absent
returns-clause-absent c =
    on_false c.is_some.result (λ f. none_unprimed (map operation_of c.args.ops.now) c.args.v.now c.member_of.result (sym c.is_some.ensures ∙ f) c.member_of.ensures.absent)
