use Rattle.std.proofs.Common.{◌≡◌, subst, sym, ap, ◌∙◌, ◌*◌, ◌+◌, ◌^◌}
use Rattle.std.specs.Prelude.{IsTrue, ◌↔◌}
use Rattle.crystal_spec.specs.Matrices.{Matrix, product, transposed}
use Rattle.matrix3.specs.Bounds.{EntriesAtMost}
use Rattle.matrix3.proofs.FitsBySize.{product_fits, product_size, transposed_size}
use Rattle.crystal.proofs.Equality.{equal_matrices}
use Rattle.crystal.proofs.metric.keeps_metric.Goals as goal

pub times-requires-clause-fits : goal.times-requires-clause-fits
times-requires-clause-fits c = product_fits _ _ c.requires.metric c.requires.map tt

pub times-carried-requires-clause-fits : goal.times-carried-requires-clause-fits
times-carried-requires-clause-fits c =
    let n = 10 ^ 16 * 150000000 + 10 ^ 16 * 150000000 + 10 ^ 16 * 150000000 in
    product_fits _ _ (subst (EntriesAtMost 150000000) (sym c.transpose.ensures) (transposed_size _ c.requires.map)) (subst (EntriesAtMost n) (sym c.times.ensures.value) (product_size _ _ c.requires.metric c.requires.map)) tt

pub returns : goal.returns
returns c =
    let is = c.times-carried.ensures.value ∙ ap (λ (t : Matrix). product t c.times.result) c.transpose.ensures ∙ ap (product (transposed c.args.w.now)) c.times.ensures.value in
    subst (λ (t : Matrix). IsTrue c.eq.result ↔ (t ≡ c.args.g.now)) is (equal_matrices _ _ _ c.eq.ensures)
