use Rattle.std.proofs.Common.{◌+◌, map, take, vec_items}
use Rattle.lists.proofs.Members.{mapped_read}
use Rattle.lists.proofs.Walks.{taken_member, taken_last, member_taken}
use Rattle.op_group.specs.Views.{operation_of}
use Rattle.hall_text.proofs.ListingLemmas.{listing_next}
use Rattle.hall_text.proofs.listing.all_operations.Goals as goal

pub add_operations-requires : goal.add_operations-requires
add_operations-requires c = c.requires.each (operation_of c.r-item.result) (mapped_read operation_of c.args.reps.now c.loop-r.r-index c.r-item.result c.loop-r-test.true c.r-item.is)

pub loop-r-preserved : goal.loop-r-preserved
loop-r-preserved c =
    let i = c.loop-r.r-index in
    let reps = c.args.reps.now in
    let r = c.r-item.result in
    listing_next c.args.table.now (map operation_of (take i reps)) (map operation_of (take (i + 1) reps)) (map operation_of (vec_items c.loop-r.ops)) (map operation_of (vec_items c.add_operations.new.ops)) (operation_of r) c.loop-r.invariant c.in_ok-add_operations.ensures
    (λ q m. member_taken operation_of reps i r q c.loop-r-test.true c.r-item.is m)
    (λ q m. taken_member operation_of reps i r q c.loop-r-test.true c.r-item.is m)
    (taken_last operation_of reps i r c.loop-r-test.true c.r-item.is)
