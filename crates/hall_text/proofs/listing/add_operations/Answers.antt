use Rattle.std.proofs.Common.{◌∙◌, ◌++◌, map, sym, ap, List, vec_items, arith, append-nil, take_all}
use Rattle.lists.proofs.Members.{member_read}
use Rattle.op_group.specs.Views.{operation_of}
use Rattle.crystal_spec.specs.Operations.{Operation}
use Rattle.hall_text.specs.PureTables.{pure_of}
use Rattle.hall_text.specs.Listings.{after}
use Rattle.std.proofs.lemmas.List.{map_push}
use Rattle.hall_text.proofs.ListingLemmas.{pushed_after, listed_after}
use Rattle.hall_text.proofs.listing.add_operations.Goals as goal

pub loop-i-init : goal.loop-i-init
loop-i-init c = sym (append-nil (map operation_of (vec_items c.args.ops.now)))

pub after-requires-clause-p : goal.after-requires-clause-p
after-requires-clause-p c =
    (c.count-i-end.ensures.table.flagged (pure_of c.at.result) (member_read c.args.table.now.found c.loop-i.i (pure_of c.at.result) (omega (arith, c.loop-i-test.true, c.count-i-end.ensures.value)) c.at.ensures)).within

pub loop-i-preserved : goal.loop-i-preserved
loop-i-preserved c =
    let r = operation_of c.args.r.now in
    ap (map operation_of) c.in_ok-push.ensures.items
    ∙ map_push operation_of (vec_items c.loop-i.ops) c.after.result
    ∙ pushed_after r c.args.table.now.found (map operation_of (vec_items c.args.ops.now)) (map operation_of (vec_items c.loop-i.ops)) c.loop-i.i (pure_of c.at.result) (operation_of c.after.result) (omega (arith, c.loop-i-test.true, c.count-i-end.ensures.value)) c.at.ensures c.after.ensures c.loop-i.invariant

pub returns : goal.returns
returns c =
    let r = operation_of c.args.r.now in
    let old = map operation_of (vec_items c.args.ops.now) in
    listed_after c.args.table.now r old (map operation_of (vec_items c.loop-i.ops)) c.count-i-end.ensures.table
    (c.loop-i.invariant ∙ ap (λ (os : List Operation). old ++ map (after r) os) (take_all c.loop-i.i c.args.table.now.found (omega (arith, c.loop-i-test.false, c.count-i-end.ensures.value, c.loop-i.auto.i-end))))
