use Rattle.std.proofs.Common.{◌+ℤ◌, ℤ, sym, subst, ap, ap₂, ◌∙◌, lit≤}
use Rattle.ring.specs.Size.{AtMost}
use Rattle.ring.proofs.Sizes.{at_most_add}
use Rattle.matrix3.proofs.FitsBySize.{determinant_fits, grown}
use Rattle.group_match.proofs.KindLemmas.{times, plus, trace_size, turn_size}
use Rattle.group_match.proofs.kind.kind.Goals as goal

pub handed-requires-clause-fits : goal.handed-requires-clause-fits
handed-requires-clause-fits c = determinant_fits c.args.w.now c.requires tt tt

pub mul-requires-2 : goal.mul-requires-2
mul-requires-2 c = grown (lit≤ tt) (subst (AtMost _) (sym (ap₂ times c.from-2.ensures c.handed.ensures.value)) (turn_size c.args.w.now c.requires))

pub add-turn-requires : goal.add-turn-requires
add-turn-requires c =
    let traces = c.mul.ensures ∙ ap₂ times c.from.ensures (c.add-trace.ensures ∙ ap (λ (x : ℤ). x +ℤ c.args.w.now.a33) c.add.ensures) in
    let turns = c.mul-2.ensures ∙ ap₂ times c.from-2.ensures c.handed.ensures.value in
    grown (lit≤ tt) (subst (AtMost _) (sym (ap₂ plus traces turns)) (at_most_add (trace_size c.args.w.now c.requires) (turn_size c.args.w.now c.requires)))

pub add-requires-2 : goal.add-requires-2
add-requires-2 c =
    let traces = c.mul.ensures ∙ ap₂ times c.from.ensures (c.add-trace.ensures ∙ ap (λ (x : ℤ). x +ℤ c.args.w.now.a33) c.add.ensures) in
    let turns = c.mul-2.ensures ∙ ap₂ times c.from-2.ensures c.handed.ensures.value in
    grown (lit≤ tt) (at_most_add (subst (AtMost _) (sym (c.add-turn.ensures ∙ ap₂ plus traces turns)) (at_most_add (trace_size c.args.w.now c.requires) (turn_size c.args.w.now c.requires))) c.factor.ensures.size)
