use Rattle.std.proofs.Common.{◌≡◌, length, rules, arith}
use Rattle.lists.proofs.Members.{member_read}
use Rattle.lists.proofs.Any.{any_more, any_all}
use Rattle.lattice_iso.specs.Columns.{scalar_product}
use Rattle.lattice_iso.proofs.ByColumns.{columns_of_third}
use Rattle.lattice_iso.proofs.search.add_with_columns.Goals as goal

pub add_matrix-requires-clause-c : goal.add_matrix-requires-clause-c
add_matrix-requires-clause-c c =
    ((c.requires.third.exact c.c-item.result).0 (member_read c.args.third.now c.loop-c.c-index c.c-item.result (omega arith) c.c-item.is)).small

pub loop-c-preserved : goal.loop-c-preserved
loop-c-preserved c w =
    any_more c.args.third.now c.loop-c.c-index c.c-item.result _ (omega arith) c.c-item.is (c.in_ok-add_matrix.ensures.members w) (c.loop-c.invariant w)

pub returns : goal.returns
returns c =
    let ab : scalar_product c.args.g.now c.args.a.now c.args.b.now ≡ c.args.g.now.a12 = search rules in
    let ended : c.loop-c.c-index ≡ length c.args.third.now = omega arith in
    record { members = λ w. columns_of_third c.args.g.now c.args.a.now c.args.b.now c.args.third.now w ab (any_all c.args.third.now c.loop-c.c-index _ ended (c.loop-c.invariant w)) }
