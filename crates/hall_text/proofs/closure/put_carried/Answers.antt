use Rattle.std.proofs.Common.{map, take, sym, subst}
use Rattle.lists.proofs.Members.{mapped_read}
use Rattle.lists.proofs.Walks.{member_taken}
use Rattle.crystal_spec.specs.Matrices.{image}
use Rattle.crystal_spec.specs.Operations.{Operation, IsWithinCell}
use Rattle.op_group.specs.Views.{operation_of}
use Rattle.positions.specs.Positions.{triple_of}
use Rattle.hall_text.specs.Products.{IsProduct}
use Rattle.hall_text.specs.PureTables.{pure_of}
use Rattle.hall_symbol.proofs.Compositions.{reduced_within}
use Rattle.hall_text.proofs.Splitting.{carried_product}
use Rattle.hall_text.proofs.ClosureLemmas.{more_put, more_both, carried_next, made_put}
use Rattle.hall_text.proofs.closure.put_carried.Goals as goal

pub carried-requires : goal.carried-requires
carried-requires c = record { small = c.requires.rotations.small.each (operation_of c.x-item.result) (mapped_read operation_of c.args.gens.now c.loop-x.x-index c.x-item.result c.loop-x-test.true c.x-item.is) }

pub put-requires : goal.put-requires
put-requires c = subst (λ (o : Operation). IsWithinCell 12 o.translation) (sym c.carried.ensures) (reduced_within (image c.x-item.result.w (triple_of c.args.o.now.shift)))

pub loop-x-preserved : goal.loop-x-preserved
loop-x-preserved c =
    let i = c.loop-x.x-index in
    let o = pure_of c.args.o.now in
    let gens = map operation_of c.args.gens.now in
    let x = operation_of c.x-item.result in
    let p = pure_of c.carried.result in
    let put = c.in_ok-put.ensures in
    let h = c.loop-x.invariant in
    record {
      more = more_both c.args.table.now c.loop-x.table c.put.new.self h.more (more_put c.loop-x.table c.put.new.self p put);
      carried = λ y m. carried_next c.loop-x.table c.put.new.self o x p (map operation_of (take i c.args.gens.now)) c.carried.ensures put h.carried y
          (member_taken operation_of c.args.gens.now i c.x-item.result y c.loop-x-test.true c.x-item.is m);
      made = λ b old. made_put gens c.loop-x.table c.put.new.self p put
          (subst (IsProduct gens) (sym c.carried.ensures) (carried_product gens c.requires.rotations.inverses x (mapped_read operation_of c.args.gens.now i c.x-item.result c.loop-x-test.true c.x-item.is) o.translation o.sign b))
          (h.made b old);
    }
