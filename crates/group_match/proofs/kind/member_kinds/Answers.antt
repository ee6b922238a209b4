use Rattle.std.proofs.Common.{lit≤}
use Rattle.lists.proofs.Members.{mapped_member, member_read}
use Rattle.op_group.specs.Views.{operation_of}
use Rattle.group_match.specs.Kinds.{kind_of_member}
use Rattle.matrix3.proofs.FitsBySize.{entries_grown}
use Rattle.group_match.proofs.KindLemmas.{one_kind_more}
use Rattle.group_match.proofs.kind.member_kinds.Goals as goal

pub kind-requires : goal.kind-requires
kind-requires c =
    entries_grown (lit≤ tt) (c.requires.small (operation_of c.op-item.result) (mapped_member operation_of c.op-item.result c.args.ops.now (member_read c.args.ops.now c.loop-op.op-index c.op-item.result c.loop-op-test.true c.op-item.is)))

pub loop-op-preserved : goal.loop-op-preserved
loop-op-preserved c =
    one_kind_more kind_of_member c.args.ops.now c.loop-op.op-index c.op-item.result c.loop-op.kinds.items _ c.kind.result c.loop-op-test.true c.op-item.is c.in_ok-push.ensures.items c.kind.ensures c.loop-op.invariant
