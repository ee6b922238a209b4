use Rattle.std.proofs.Common.{◌∙◌}
use Rattle.crystal_spec.specs.Matrices.{matrix_multiple}
use Rattle.crystal_compare.proofs.matrices.metrics_of.Goals as goal

pub returns : goal.returns
returns c = record {
  one = c.multiple.ensures.value ∙ (λ i. matrix_multiple (c.scale.ensures i) ((c.matrix.ensures ∙ c.metric.ensures) i));
  other = c.multiple-2.ensures.value ∙ (λ i. matrix_multiple (c.scale-2.ensures i) ((c.matrix-2.ensures ∙ c.metric-2.ensures) i));
  small = c.multiple-2.ensures.size;
}
