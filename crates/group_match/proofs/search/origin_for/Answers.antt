use Rattle.std.proofs.Common.{◌^◌, ◌≤◌, ℕ, List, map, length, sym, subst}
use Rattle.exact_num.specs.Meanings.{fraction_of}
use Rattle.ring.specs.Size.{AtMost}
use Rattle.matrix3.specs.Matrices.{vector_map, EachEntry}
use Rattle.matrix3.proofs.FitsBySize.{product_fits}
use Rattle.op_group.specs.Views.{operation_of}
use Rattle.match_spec.proofs.ListedGroups.{step_facts}
use Rattle.group_match.specs.declared.pair.Matched.{Matched}
use Rattle.group_match.specs.Matching.{ArePairs, HasNoImage}
use Rattle.group_match.specs.Origins.{AreSized}
use Rattle.group_match.proofs.Outcomes.{of_none, of_some, ok_some_then, ok_none_then}
use Rattle.group_match.proofs.TaskLemmas.{class_size, turn_size, no_image, sized, chosen_sized, chosen_few, chosen_some, origin_found, origin_absent, n_at_least, moved_place, moved_no_place}
use Rattle.group_match.proofs.search.origin_for.Goals as goal

pub times-turn-requires-clause-fits : goal.times-turn-requires-clause-fits
times-turn-requires-clause-fits c =
    let h = c.args.symbol.now.operations in
    let n = c.args.found.now.n in
    let m = c.args.found.now.operations in
    let s = c.args.back.now in
    let ss = c.args.sources.now in
    let p = c.args.class.now in
    let r = c.requires in
    product_fits p s (class_size p r.class) (step_facts h s r.task.symbol_group r.step).small tt

pub pairs_for-requires-clause-p : goal.pairs_for-requires-clause-p
pairs_for-requires-clause-p c =
    class_size c.args.class.now c.requires.class

pub pairs_for-requires-clause-small : goal.pairs_for-requires-clause-small
pairs_for-requires-clause-small c x hx =
    (c.requires.sources.inner x hx).small

pub returns-in_default-clause-absent : goal.returns-in_default-clause-absent
returns-in_default-clause-absent c =
    let h = c.args.symbol.now.operations in
    let n = c.args.found.now.n in
    let m = c.args.found.now.operations in
    let s = c.args.back.now in
    let ss = c.args.sources.now in
    let p = c.args.class.now in
    let r = c.requires in
    no_image h n m r.task s r.step ss r.sources r.many p r.class (subst (λ os. HasNoImage p os ss) c.ops-ops.ensures (of_none c.in_ok-pairs.field-0 c.in_ok-pairs.ensures.absent c.in_default.is))

pub least_origin-requires-clause-turn : goal.least_origin-requires-clause-turn
least_origin-requires-clause-turn c =
    let h = c.args.symbol.now.operations in
    let n = c.args.found.now.n in
    let m = c.args.found.now.operations in
    let s = c.args.back.now in
    let ss = c.args.sources.now in
    let p = c.args.class.now in
    let r = c.requires in
    subst (EachEntry (AtMost 5184)) (sym c.times-turn.ensures.value) (turn_size h n m r.task s r.step ss r.sources r.many p r.class)

pub least_origin-requires-clause-n_at_least : goal.least_origin-requires-clause-n_at_least
least_origin-requires-clause-n_at_least c =
    let h = c.args.symbol.now.operations in
    let n = c.args.found.now.n in
    let m = c.args.found.now.operations in
    let s = c.args.back.now in
    let ss = c.args.sources.now in
    let p = c.args.class.now in
    let r = c.requires in
    subst (λ (k : ℕ). 1 ≤ k) (sym c.n.ensures) (n_at_least n m r.task.found_group)

pub least_origin-requires-clause-n_at_most : goal.least_origin-requires-clause-n_at_most
least_origin-requires-clause-n_at_most c =
    let h = c.args.symbol.now.operations in
    let n = c.args.found.now.n in
    let m = c.args.found.now.operations in
    let s = c.args.back.now in
    let ss = c.args.sources.now in
    let p = c.args.class.now in
    let r = c.requires in
    subst (λ (k : ℕ). k ≤ 10 ^ 6) (sym c.n.ensures) r.task.n_most

pub least_origin-requires-clause-some : goal.least_origin-requires-clause-some
least_origin-requires-clause-some c =
    let h = c.args.symbol.now.operations in
    let n = c.args.found.now.n in
    let m = c.args.found.now.operations in
    let s = c.args.back.now in
    let ss = c.args.sources.now in
    let p = c.args.class.now in
    let r = c.requires in
    let k : ArePairs p m ss c.in-Some.pairs = subst (λ os. ArePairs p os ss c.in-Some.pairs) c.ops-ops.ensures (of_some (ArePairs p (map operation_of c.ops-ops.result.now) ss) c.in_ok-pairs.field-0 c.in-Some.pairs c.in_ok-pairs.ensures.found c.in-Some.is) in
    subst (λ (xs : List Matched). 1 ≤ length xs) (sym c.deref-2.ensures.value) (chosen_some h n m r.task s r.step ss r.sources r.many p r.class c.in-Some.pairs.all.items k.carried c.in-Some.pairs.first.items k.part)

pub least_origin-requires-clause-few : goal.least_origin-requires-clause-few
least_origin-requires-clause-few c =
    let h = c.args.symbol.now.operations in
    let n = c.args.found.now.n in
    let m = c.args.found.now.operations in
    let s = c.args.back.now in
    let ss = c.args.sources.now in
    let p = c.args.class.now in
    let r = c.requires in
    let k : ArePairs p m ss c.in-Some.pairs = subst (λ os. ArePairs p os ss c.in-Some.pairs) c.ops-ops.ensures (of_some (ArePairs p (map operation_of c.ops-ops.result.now) ss) c.in_ok-pairs.field-0 c.in-Some.pairs c.in_ok-pairs.ensures.found c.in-Some.is) in
    subst (λ (xs : List Matched). length xs ≤ 96) (sym c.deref-2.ensures.value) (chosen_few h n m r.task s r.step ss r.sources r.many p r.class c.in-Some.pairs.all.items k.carried c.in-Some.pairs.first.items k.part)

pub least_origin-requires-clause-pairs : goal.least_origin-requires-clause-pairs
least_origin-requires-clause-pairs c =
    let h = c.args.symbol.now.operations in
    let n = c.args.found.now.n in
    let m = c.args.found.now.operations in
    let s = c.args.back.now in
    let ss = c.args.sources.now in
    let p = c.args.class.now in
    let r = c.requires in
    let k : ArePairs p m ss c.in-Some.pairs = subst (λ os. ArePairs p os ss c.in-Some.pairs) c.ops-ops.ensures (of_some (ArePairs p (map operation_of c.ops-ops.result.now) ss) c.in_ok-pairs.field-0 c.in-Some.pairs c.in_ok-pairs.ensures.found c.in-Some.is) in
    subst (λ (l : ℕ). AreSized l c.deref.result.now) (sym c.n.ensures) (subst (AreSized n) (sym c.deref.ensures.value) (sized h n m r.task s r.step ss r.sources r.many p r.class c.in-Some.pairs.all.items k.carried))

pub least_origin-requires-clause-first : goal.least_origin-requires-clause-first
least_origin-requires-clause-first c =
    let h = c.args.symbol.now.operations in
    let n = c.args.found.now.n in
    let m = c.args.found.now.operations in
    let s = c.args.back.now in
    let ss = c.args.sources.now in
    let p = c.args.class.now in
    let r = c.requires in
    let k : ArePairs p m ss c.in-Some.pairs = subst (λ os. ArePairs p os ss c.in-Some.pairs) c.ops-ops.ensures (of_some (ArePairs p (map operation_of c.ops-ops.result.now) ss) c.in_ok-pairs.field-0 c.in-Some.pairs c.in_ok-pairs.ensures.found c.in-Some.is) in
    subst (λ (l : ℕ). AreSized l c.deref-2.result.now) (sym c.n.ensures) (subst (AreSized n) (sym c.deref-2.ensures.value) (chosen_sized h n m r.task s r.step ss r.sources r.many p r.class c.in-Some.pairs.all.items k.carried c.in-Some.pairs.first.items k.part))

pub returns-clause-found : goal.returns-clause-found
returns-clause-found c =
    let h = c.args.symbol.now.operations in
    let n = c.args.found.now.n in
    let m = c.args.found.now.operations in
    let s = c.args.back.now in
    let ss = c.args.sources.now in
    let p = c.args.class.now in
    let r = c.requires in
    let k : ArePairs p m ss c.in-Some.pairs = subst (λ os. ArePairs p os ss c.in-Some.pairs) c.ops-ops.ensures (of_some (ArePairs p (map operation_of c.ops-ops.result.now) ss) c.in_ok-pairs.field-0 c.in-Some.pairs c.in_ok-pairs.ensures.found c.in-Some.is) in
    ok_some_then c.least_origin.result (λ f q. origin_found h n m r.task s r.step ss r.sources r.many p r.class c.in-Some.pairs.all.items k.carried c.in-Some.pairs.first.items k.part (vector_map fraction_of f) (moved_place c.times-turn.ensures.value c.n.ensures c.deref.ensures.value c.deref-2.ensures.value q)) c.least_origin.ensures.found

pub returns-clause-absent : goal.returns-clause-absent
returns-clause-absent c =
    let h = c.args.symbol.now.operations in
    let n = c.args.found.now.n in
    let m = c.args.found.now.operations in
    let s = c.args.back.now in
    let ss = c.args.sources.now in
    let p = c.args.class.now in
    let r = c.requires in
    let k : ArePairs p m ss c.in-Some.pairs = subst (λ os. ArePairs p os ss c.in-Some.pairs) c.ops-ops.ensures (of_some (ArePairs p (map operation_of c.ops-ops.result.now) ss) c.in_ok-pairs.field-0 c.in-Some.pairs c.in_ok-pairs.ensures.found c.in-Some.is) in
    ok_none_then c.least_origin.result (λ q. origin_absent h n m r.task s r.step ss r.sources r.many p r.class c.in-Some.pairs.all.items k.carried c.in-Some.pairs.first.items k.part (moved_no_place c.times-turn.ensures.value c.n.ensures c.deref.ensures.value c.deref-2.ensures.value q)) c.least_origin.ensures.absent
