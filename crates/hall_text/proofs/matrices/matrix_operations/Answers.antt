use Rattle.std.proofs.Common.{◌<◌, length, map, arith, vec_items, ap, sym, ◌∙◌}
use Rattle.lists.proofs.Members.{mapped_read}
use Rattle.op_group.specs.Views.{operation_of}
use Rattle.hall_text.proofs.Listed.{starts_longer}
use Rattle.std.proofs.lemmas.List.{length-map, get_or-map}
use Rattle.hall_text.proofs.Closing.{closed_next}
use Rattle.hall_text.proofs.matrices.matrix_operations.Goals as goal

pub grow-requires-clause-member : goal.grow-requires-clause-member
grow-requires-clause-member c = mapped_read operation_of c.loop-at.list.items c.loop-at.at c.index.result.now (omega (arith, c.loop-at-test.true, c.len.ensures)) c.index.ensures

pub loop-at-preserved : goal.loop-at-preserved
loop-at-preserved c =
    let i = c.loop-at.invariant in
    let old = map operation_of (vec_items c.loop-at.list) in
    let new = map operation_of (vec_items c.grow.new.list) in
    let g = c.in-Ok-grow.ensures.value in
    let l : c.loop-at.at < length (vec_items c.loop-at.list) = omega (arith, c.loop-at-test.true, c.len.ensures) in
    record {
      partial = g.partial;
      within = omega (arith, l, starts_longer old new g.starts, length-map (vec_items c.loop-at.list) operation_of, length-map (vec_items c.grow.new.list) operation_of);
      closed = closed_next (map operation_of c.args.gens.now) old new c.loop-at.at (operation_of c.index.result.now) (omega (arith, l, length-map (vec_items c.loop-at.list) operation_of)) (ap operation_of c.index.ensures ∙ sym (get_or-map operation_of c.loop-at.list.items c.loop-at.at c.index.result.now (operation_of c.index.result.now) l)) g i.closed;
    }
