use Rattle.std.proofs.Common.{[], get_or, map, take, sym, subst}
use Rattle.lists.proofs.Members.{mapped_read}
use Rattle.lists.proofs.Walks.{member_taken}
use Rattle.crystal_spec.specs.declared.Sign.TheVariants.{Same}
use Rattle.crystal_spec.specs.Matrices.{sum_of}
use Rattle.crystal_spec.specs.Operations.{Operation, IsWithinCell}
use Rattle.positions.specs.Positions.{triple_of}
use Rattle.hall_text.specs.Products.{IsProduct}
use Rattle.hall_text.specs.PureTables.{pure_of}
use Rattle.hall_symbol.proofs.Compositions.{reduced_within}
use Rattle.hall_text.proofs.Splitting.{sum_product}
use Rattle.std.proofs.lemmas.List.{get_or_default}
use Rattle.hall_text.proofs.ClosureLemmas.{more_put, more_both, sums_next, made_put}
use Rattle.hall_text.proofs.closure.put_sums.Goals as goal

pub sum-requires-clause-d : goal.sum-requires-clause-d
sum-requires-clause-d c = c.requires.within.each (pure_of (get_or c.args.steps.now c.loop-d.d-index (record { shift = []; sign = Same }))) (mapped_read pure_of c.args.steps.now c.loop-d.d-index (get_or c.args.steps.now c.loop-d.d-index (record { shift = []; sign = Same })) c.loop-d-test.true (get_or_default c.args.steps.now c.loop-d.d-index (record { shift = []; sign = Same }) (get_or c.args.steps.now c.loop-d.d-index (record { shift = []; sign = Same })) c.loop-d-test.true))

pub put-requires : goal.put-requires
put-requires c = subst (λ (o : Operation). IsWithinCell 12 o.translation) (sym c.sum.ensures) (reduced_within (sum_of (triple_of c.args.o.now.shift) (pure_of (get_or c.args.steps.now c.loop-d.d-index (record { shift = []; sign = Same }))).translation))

pub loop-d-preserved : goal.loop-d-preserved
loop-d-preserved c =
    let i = c.loop-d.d-index in
    let o = pure_of c.args.o.now in
    let d = pure_of (get_or c.args.steps.now c.loop-d.d-index (record { shift = []; sign = Same })) in
    let p = pure_of c.sum.result in
    let put = c.in_ok-put.ensures in
    let h = c.loop-d.invariant in
    record {
      more = more_both c.args.table.now c.loop-d.table c.put.new.self h.more (more_put c.loop-d.table c.put.new.self p put);
      sums = λ e m. sums_next c.loop-d.table c.put.new.self o d p (map pure_of (take i c.args.steps.now)) c.sum.ensures put h.sums e
          (member_taken pure_of c.args.steps.now i (get_or c.args.steps.now c.loop-d.d-index (record { shift = []; sign = Same })) e c.loop-d-test.true (get_or_default c.args.steps.now c.loop-d.d-index (record { shift = []; sign = Same }) (get_or c.args.steps.now c.loop-d.d-index (record { shift = []; sign = Same })) c.loop-d-test.true) m);
      made = λ gens a b old. made_put gens c.loop-d.table c.put.new.self p put
          (subst (IsProduct gens) (sym c.sum.ensures) (sum_product gens o.translation d.translation o.sign d.sign b (a.each d (mapped_read pure_of c.args.steps.now i (get_or c.args.steps.now c.loop-d.d-index (record { shift = []; sign = Same })) c.loop-d-test.true (get_or_default c.args.steps.now c.loop-d.d-index (record { shift = []; sign = Same }) (get_or c.args.steps.now c.loop-d.d-index (record { shift = []; sign = Same })) c.loop-d-test.true)))))
          (h.made gens a b old);
    }
