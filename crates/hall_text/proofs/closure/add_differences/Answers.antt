use Rattle.std.proofs.Common.{◌∙◌, ◌+◌, map, take, sym, ap, subst, List, vec_items}
use Rattle.lists.proofs.Members.{mapped_read}
use Rattle.lists.proofs.Walks.{member_taken}
use Rattle.crystal_spec.specs.Operations.{Operation}
use Rattle.op_group.specs.Views.{operation_of}
use Rattle.hall_text.specs.PureTables.{pure_of, HasDifferences}
use Rattle.hall_text.proofs.ProductLemmas.{product_within}
use Rattle.std.proofs.lemmas.List.{map_push}
use Rattle.hall_text.proofs.Closing.{product_fits_of}
use Rattle.hall_text.proofs.ClosureLemmas.{differences_next, some_matrix}
use Rattle.hall_text.proofs.closure.add_differences.Goals as goal
use Rattle.hall_text.proofs.closure.add_differences.Goals.{in-Some+in_ok-push-in-Some, in-None}

pub compose-o-requires-clause-fits : goal.compose-o-requires-clause-fits
compose-o-requires-clause-fits c =
    product_fits_of (map operation_of c.args.gens.now) (map operation_of c.args.ops.now) (operation_of c.x-item.result) (operation_of c.args.r.now) c.requires.rotations.small c.requires.stand.partial
    (mapped_read operation_of c.args.gens.now c.loop-x.x-index c.x-item.result c.loop-x-test.true c.x-item.is) c.requires.member

pub difference-requires-clause-s : goal.difference-requires-clause-s
difference-requires-clause-s c =
    product_within (map operation_of c.args.gens.now) (operation_of c.in-Some.rep) (c.requires.stand.partial.products.each (operation_of c.in-Some.rep) c.in-Some.ensures.found.0)

pub loop-x-preserved : goal.loop-x-preserved
loop-x-preserved c =
    let os = map operation_of c.args.ops.now in
    let gens = map operation_of c.args.gens.now in
    let r = operation_of c.args.r.now in
    let x = operation_of c.x-item.result in
    let o = operation_of c.compose-o.result in
    let i = c.loop-x.x-index in
    let seen = map operation_of (take i c.args.gens.now) in
    let more = map operation_of (take (i + 1) c.args.gens.now) in
    let first = map pure_of (vec_items c.args.steps.now) in
    let old = map pure_of (vec_items c.loop-x.steps) in
    let in_gens = mapped_read operation_of c.args.gens.now i c.x-item.result c.loop-x-test.true c.x-item.is in
    elim c.match-with_matrix.branch [
      | in-Some+in_ok-push-in-Some w ↦
          subst (λ (ds : List Operation). HasDifferences os gens r more first ds)
          (sym (ap (λ (v : _). map pure_of (vec_items v)) w.steps-is ∙ ap (map pure_of) w.in_ok-push-in-Some.ensures.items ∙ map_push pure_of (vec_items c.loop-x.steps) w.difference.result))
          (differences_next os gens seen first old r x o (operation_of w.in-Some.rep) (pure_of w.difference.result) c.requires.rotations c.requires.stand c.requires.member in_gens c.compose-o.ensures w.in-Some.ensures.found.0 w.in-Some.ensures.found.1 w.difference.ensures c.loop-x.invariant more
          (λ y m. member_taken operation_of c.args.gens.now i c.x-item.result y c.loop-x-test.true c.x-item.is m))
      | in-None w ↦ absurd (some_matrix os gens r x o c.requires.stand c.requires.member in_gens c.compose-o.ensures w.in-None.ensures.absent)
    ]
