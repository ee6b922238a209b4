use Rattle.std.proofs.Common.{◌+◌, take, sym, subst}
use Rattle.lists.proofs.Members.{mapped_member, member_read}
use Rattle.op_group.specs.Views.{operation_of}
use Rattle.group_match.specs.declared.inner.Source.{Source}
use Rattle.group_match.specs.Sources.{AreSources}
use Rattle.group_match.proofs.Loops.{sources_more}
use Rattle.group_match.proofs.inner.sources.Goals as goal

pub inner-requires-clause-small : goal.inner-requires-clause-small
inner-requires-clause-small c =
    c.requires.small (operation_of c.op-item.result) (mapped_member operation_of c.op-item.result c.args.ops.now (member_read c.args.ops.now c.loop-op.op-index c.op-item.result c.loop-op-test.true c.op-item.is))

pub returns-in-None-clause-absent : goal.returns-in-None-clause-absent
returns-in-None-clause-absent c = record {
  operation = operation_of c.op-item.result;
  of_list = mapped_member operation_of c.op-item.result c.args.ops.now (member_read c.args.ops.now c.loop-op.op-index c.op-item.result c.loop-op-test.true c.op-item.is);
  none = c.in-None.ensures.absent;
}

pub loop-op-preserved : goal.loop-op-preserved
loop-op-preserved c =
    let x : Source = record { op = c.op-item.result; inner = c.in-Some.inner } in
    subst (AreSources c.args.steps.now.back (take (c.loop-op.op-index + 1) c.args.ops.now)) (sym c.in_ok-push-in-Some.ensures.items)
    (sources_more c.args.steps.now.back c.args.ops.now c.loop-op.op-index x c.loop-op.sources.items c.loop-op-test.true c.op-item.is (record { turned = c.in-Some.ensures.found; small = c.in-Some.ensures.small }) c.loop-op.invariant)
