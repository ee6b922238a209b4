use Rattle.std.proofs.Common.{◌+◌, map, take, vec_items}
use Rattle.lists.proofs.Members.{mapped_read}
use Rattle.lists.proofs.Walks.{member_taken}
use Rattle.op_group.specs.Views.{operation_of}
use Rattle.hall_text.specs.PureTables.{pure_of}
use Rattle.hall_text.proofs.ClosureLemmas.{steps_next}
use Rattle.hall_text.proofs.closure.differences.Goals as goal

pub add_differences-requires-clause-member : goal.add_differences-requires-clause-member
add_differences-requires-clause-member c = mapped_read operation_of c.args.ops.now c.loop-r.r-index c.r-item.result c.loop-r-test.true c.r-item.is

pub loop-r-preserved : goal.loop-r-preserved
loop-r-preserved c =
    let i = c.loop-r.r-index in
    steps_next (map operation_of c.args.ops.now) (map operation_of c.args.gens.now) (map operation_of (take i c.args.ops.now)) (map pure_of (vec_items c.loop-r.steps)) (map pure_of (vec_items c.add_differences.new.steps)) (operation_of c.r-item.result) c.loop-r.invariant c.in_ok-add_differences.ensures (map operation_of (take (i + 1) c.args.ops.now))
    (λ q m. member_taken operation_of c.args.ops.now i c.r-item.result q c.loop-r-test.true c.r-item.is m)
