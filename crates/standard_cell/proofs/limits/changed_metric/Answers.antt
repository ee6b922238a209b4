use Rattle.std.proofs.Common.{◌≡◌, subst, sym, ap, ◌∙◌, ◌*◌, ◌+◌, ◌^◌}
use Rattle.crystal_spec.specs.Matrices.{Matrix, product, transposed}
use Rattle.matrix3.specs.Bounds.{EntriesAtMost}
use Rattle.matrix3.proofs.FitsBySize.{product_fits, product_size, transposed_size}
use Rattle.basis_spec.specs.Metrics.{metric_in}
use Rattle.basis_spec.proofs.Positive.{symmetric_metric_in}
use Rattle.prim_cell.proofs.ReducedBases.{six_entries}
use Rattle.standard_cell.proofs.StartLemmas.{entries_of}
use Rattle.standard_cell.proofs.limits.changed_metric.Goals as goal

pub times-requires-clause-fits : goal.times-requires-clause-fits
times-requires-clause-fits c = product_fits _ _ c.requires.metric (entries_of c.requires.columns) tt

pub times-changed-requires-clause-fits : goal.times-changed-requires-clause-fits
times-changed-requires-clause-fits c =
    let n = 10 ^ 16 * 5184 + 10 ^ 16 * 5184 + 10 ^ 16 * 5184 in
    product_fits _ _ (subst (EntriesAtMost 5184) (sym c.transpose.ensures) (transposed_size _ (entries_of c.requires.columns))) (subst (EntriesAtMost n) (sym c.times.ensures.value) (product_size _ _ c.requires.metric (entries_of c.requires.columns))) tt

pub returns : goal.returns
returns c =
    let m = c.times-changed.result in
    let is : m ≡ metric_in c.args.p.now c.args.g.now = c.times-changed.ensures.value ∙ ap (λ (t : Matrix). product t c.times.result) c.transpose.ensures ∙ ap (product (transposed c.args.p.now)) c.times.ensures.value in
    six_entries m (subst (λ (a : Matrix). transposed a ≡ a) (sym is) (symmetric_metric_in c.args.p.now c.args.g.now c.requires.symmetric)) ∙ is
