use Rattle.lists.proofs.Members.{member_read}
use Rattle.group_match.specs.Kinds.{kind_of_source}
use Rattle.group_match.proofs.KindLemmas.{one_kind_more}
use Rattle.group_match.proofs.kind.source_kinds.Goals as goal

pub kind-requires : goal.kind-requires
kind-requires c =
    c.requires.small c.source-item.result (member_read c.args.sources.now c.loop-source.source-index c.source-item.result c.loop-source-test.true c.source-item.is)

pub loop-source-preserved : goal.loop-source-preserved
loop-source-preserved c =
    one_kind_more kind_of_source c.args.sources.now c.loop-source.source-index c.source-item.result c.loop-source.kinds.items _ c.kind.result c.loop-source-test.true c.source-item.is c.in_ok-push.ensures.items c.kind.ensures c.loop-source.invariant
