use Rattle.std.proofs.Common.{◌≡◌, ◌^◌, ◌*◌, ◌+◌, pos, ◌≤ℤ◌, sym, subst, ap, ◌∙◌}
use Rattle.ring.specs.Size.{AtMost}
use Rattle.matrix3.specs.Matrices.{EachEntry}
use Rattle.matrix3.proofs.FitsBySize.{product_fits, product_size}
use Rattle.crystal_spec.specs.Matrices.{Matrix, product}
use Rattle.basis_spec.specs.Metrics.{matrix_multiple}
use Rattle.group_match.proofs.Outcomes.{some_then, none_then}
use Rattle.group_match.proofs.InnerLemmas.{inner_of, of_inner, index_whole}
use Rattle.group_match.proofs.inner.inner.Goals as goal

pub times-requires-clause-fits : goal.times-requires-clause-fits
times-requires-clause-fits c = product_fits c.args.steps.now.back c.args.w.now c.requires.steps.small c.requires.small tt

pub times-turned-requires-clause-fits : goal.times-turned-requires-clause-fits
times-turned-requires-clause-fits c =
    let m = 1728 * 10 ^ 23 + 1728 * 10 ^ 23 + 1728 * 10 ^ 23 in
    product_fits c.times.result c.args.steps.now.fore (subst (EachEntry (AtMost m)) (sym c.times.ensures.value) (product_size c.args.steps.now.back c.args.w.now c.requires.steps.small c.requires.small)) c.requires.steps.fore_small tt

pub divided-requires : goal.divided-requires
divided-requires c = subst (λ z. pos 1 ≤ℤ z) (sym c.from.ensures) (index_whole c.args.steps.now.index c.requires.steps.at_least)

pub returns-clause-found : goal.returns-clause-found
returns-clause-found c =
    let s = c.args.steps.now in
    let is : c.times-turned.result ≡ product (product s.back c.args.w.now) s.fore = c.times-turned.ensures.value ∙ ap (λ (m : Matrix). product m s.fore) c.times.ensures.value in
    some_then c.divided.result (λ q e. inner_of s.index s.back s.fore c.args.w.now c.requires.steps q (sym is ∙ (e ∙ ap (λ k. matrix_multiple k q) c.from.ensures))) c.divided.ensures.found

pub returns-clause-absent : goal.returns-clause-absent
returns-clause-absent c =
    let s = c.args.steps.now in
    let is : c.times-turned.result ≡ product (product s.back c.args.w.now) s.fore = c.times-turned.ensures.value ∙ ap (λ (m : Matrix). product m s.fore) c.times.ensures.value in
    none_then c.divided.result (λ none q small e. none q small (is ∙ (of_inner s.index s.back s.fore c.args.w.now c.requires.steps q e ∙ ap (λ k. matrix_multiple k q) (sym c.from.ensures)))) c.divided.ensures.absent
