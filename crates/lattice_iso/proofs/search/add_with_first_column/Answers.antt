use Rattle.std.proofs.Common.{◌≡◌, length, arith}
use Rattle.lists.proofs.Members.{member_read}
use Rattle.lists.proofs.Any.{any_more, any_all}
use Rattle.lattice_iso.proofs.search.add_with_first_column.Goals as goal

pub add_with_columns-requires-clause-b : goal.add_with_columns-requires-clause-b
add_with_columns-requires-clause-b c =
    ((c.requires.second.exact c.b-item.result).0 (member_read c.args.second.now c.loop-b.b-index c.b-item.result (omega arith) c.b-item.is)).small

pub loop-b-preserved : goal.loop-b-preserved
loop-b-preserved c w =
    any_more c.args.second.now c.loop-b.b-index c.b-item.result _ (omega arith) c.b-item.is (c.in_ok-add_with_columns.ensures.members w) (c.loop-b.invariant w)

pub returns : goal.returns
returns c =
    let ended : c.loop-b.b-index ≡ length c.args.second.now = omega arith in
    record { members = λ w. any_all c.args.second.now c.loop-b.b-index _ ended (c.loop-b.invariant w) }
