use Rattle.std.proofs.Common.{subst, map, take, vec_items}
use Rattle.lists.proofs.Members.{mapped_read}
use Rattle.lists.proofs.Walks.{member_taken}
use Rattle.crystal_spec.specs.Operations.{Operation}
use Rattle.op_group.specs.Views.{operation_of}
use Rattle.hall_text.specs.Splits.{HasMatrix}
use Rattle.hall_symbol.proofs.Compositions.{composed_then}
use Rattle.hall_text.proofs.Listed.{starts_member, starts_both}
use Rattle.hall_text.proofs.Closing.{product_fits_of, next_of, meets_next}
use Rattle.hall_text.proofs.matrices.grow.Goals as goal

pub compose-requires-clause-fits : goal.compose-requires-clause-fits
compose-requires-clause-fits c =
    let i = c.loop-x.invariant in
    product_fits_of (map operation_of c.args.gens.now) (map operation_of (vec_items c.loop-x.list)) (operation_of c.x-item.result) (operation_of c.args.r.now) c.requires.rotations.small i.partial
    (mapped_read operation_of c.args.gens.now c.loop-x.x-index c.x-item.result c.loop-x-test.true c.x-item.is)
    (starts_member (map operation_of (vec_items c.args.list.now)) (map operation_of (vec_items c.loop-x.list)) i.starts (operation_of c.args.r.now) c.requires.member)

pub returns-in-Err-clause-refused : goal.returns-in-Err-clause-refused
returns-in-Err-clause-refused c =
    let i = c.loop-x.invariant in
    c.in-Err.ensures.refused (map operation_of c.args.gens.now) i.partial
    (next_of (map operation_of c.args.gens.now) (map operation_of (vec_items c.loop-x.list)) (operation_of c.x-item.result) (operation_of c.args.r.now) (operation_of c.compose.result) c.requires.rotations i.partial
    (mapped_read operation_of c.args.gens.now c.loop-x.x-index c.x-item.result c.loop-x-test.true c.x-item.is)
    (starts_member (map operation_of (vec_items c.args.list.now)) (map operation_of (vec_items c.loop-x.list)) i.starts (operation_of c.args.r.now) c.requires.member)
    c.compose.ensures)

pub loop-x-preserved : goal.loop-x-preserved
loop-x-preserved c =
    let i = c.loop-x.invariant in
    let gens = map operation_of c.args.gens.now in
    let old = map operation_of (vec_items c.loop-x.list) in
    let new = map operation_of (vec_items c.add.new.list) in
    let r = operation_of c.args.r.now in
    let x = operation_of c.x-item.result in
    let a =
    c.in-Ok.ensures.value gens i.partial
    (next_of gens old x r (operation_of c.compose.result) c.requires.rotations i.partial
    (mapped_read operation_of c.args.gens.now c.loop-x.x-index c.x-item.result c.loop-x-test.true c.x-item.is)
    (starts_member (map operation_of (vec_items c.args.list.now)) old i.starts r c.requires.member)
    c.compose.ensures) in
    record {
      partial = a.partial;
      starts = starts_both (map operation_of (vec_items c.args.list.now)) old new i.starts a.starts;
      meets = λ y m. meets_next (map operation_of (take c.loop-x.x-index c.args.gens.now)) old new r x a.starts i.meets
          (subst (λ (o : Operation). HasMatrix new o.matrix) (composed_then r x (operation_of c.compose.result) c.compose.ensures) a.found) y
          (member_taken operation_of c.args.gens.now c.loop-x.x-index c.x-item.result y c.loop-x-test.true c.x-item.is m);
    }
