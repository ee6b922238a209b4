use Rattle.std.proofs.Common.{◌≡◌, subst, ap, ◌∙◌}
use Rattle.std.specs.Prelude.{IsTrue, ◌↔◌}
use Rattle.crystal_spec.specs.Matrices.{Matrix, matrix_multiple}
use Rattle.basis_spec.specs.Metrics.{metric_in}
use Rattle.crystal.proofs.Equality.{equal_matrices}
use Rattle.crystal_compare.proofs.matrices.carries_metric.Goals as goal

pub returns : goal.returns
returns c =
    let a = c.args.one.now in
    let b = c.args.other.now in
    let turned = c.metric_in-turned.ensures.value ∙ ap (metric_in c.args.w.now) (c.matrix.ensures ∙ c.metric.ensures) in
    let left = c.multiple.ensures.value ∙ (λ i. matrix_multiple (c.scale.ensures i) (turned i)) in
    let right = c.multiple-2.ensures.value ∙ (λ i. matrix_multiple (c.scale-2.ensures i) ((c.matrix-2.ensures ∙ c.metric-2.ensures) i)) in
    subst (λ (m : Matrix). IsTrue c.eq.result ↔ (m ≡ matrix_multiple b.scale a.metric)) left (subst (λ (m : Matrix). IsTrue c.eq.result ↔ (c.multiple.result ≡ m)) right (equal_matrices c.multiple.result c.multiple-2.result c.eq.result c.eq.ensures))
