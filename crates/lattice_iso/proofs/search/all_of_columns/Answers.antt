use Rattle.std.proofs.Common.{◌≡◌, length, arith}
use Rattle.lists.proofs.Members.{member_read}
use Rattle.lists.proofs.Any.{any_more, any_all, only_left}
use Rattle.lattice_iso.proofs.search.all_of_columns.Goals as goal

pub add_with_first_column-requires-clause-a : goal.add_with_first_column-requires-clause-a
add_with_first_column-requires-clause-a c =
    ((c.requires.first.exact c.a-item.result).0 (member_read c.args.first.now c.loop-a.a-index c.a-item.result (omega arith) c.a-item.is)).small

pub loop-a-preserved : goal.loop-a-preserved
loop-a-preserved c w =
    any_more c.args.first.now c.loop-a.a-index c.a-item.result _ (omega arith) c.a-item.is (c.in_ok-add_with_first_column.ensures.members w) (c.loop-a.invariant w)

pub returns-clause-members : goal.returns-clause-members
returns-clause-members c w =
    let ended : c.loop-a.a-index ≡ length c.args.first.now = omega arith in
    only_left (any_all c.args.first.now c.loop-a.a-index _ ended (c.loop-a.invariant w))
