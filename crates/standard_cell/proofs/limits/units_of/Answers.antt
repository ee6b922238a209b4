use Rattle.std.proofs.Common.{◌≡◌, ◌*◌, ◌^◌, ℕ, ℤ, pos, ◌*ℤ◌, sym, ap, subst, ◌∙◌}
use Rattle.crystal_spec.specs.Matrices.{Matrix, transposed, determinant}
use Rattle.crystal_spec.specs.Moments.{divisor}
use Rattle.matrix3.specs.Bounds.{EntriesAtMost}
use Rattle.basis_spec.specs.Metrics.{metric_in}
use Rattle.group_match.proofs.Outcomes.{of_some}
use Rattle.standard_cell.specs.PlaceDivisors.{full}
use Rattle.standard_cell.specs.Frames.{origin_of}
use Rattle.standard_cell.proofs.CopyLemmas.{full_is}
use Rattle.standard_cell.proofs.LimitLemmas.{not_zero, swapped, index_size}
use Rattle.standard_cell.proofs.limits.units_of.Goals as goal

pub unwrap-requires : goal.unwrap-requires
unwrap-requires c =
    let f = c.args.frame.now in
    let s = c.args.cell.now in
    let d = c.place_divisor-divisor.ensures in
    let e = c.full.ensures.value ∙ sym (full_is f c.requires.frame) ∙ ap (λ (n : ℕ). full f.turn (origin_of f) (pos n)) c.requires.n in
    c.div_exact.ensures.exact.1 (not_zero c.place_divisor-divisor.result d.positive, (d.whole.0, swapped d.whole.0 c.place_divisor-divisor.result ∙ sym d.whole.1 ∙ sym e))

pub changed_metric-requires-clause-symmetric : goal.changed_metric-requires-clause-symmetric
changed_metric-requires-clause-symmetric c =
    let is = c.matrix.ensures ∙ c.metric.ensures in
    subst (λ (m : Matrix). transposed m ≡ m) (sym is) c.invariant.ensures.cell.symmetric

pub changed_metric-requires-clause-metric : goal.changed_metric-requires-clause-metric
changed_metric-requires-clause-metric c = subst (EntriesAtMost (10 ^ 16)) (sym (c.matrix.ensures ∙ c.metric.ensures)) c.invariant.ensures.form.entries

pub returns : goal.returns
returns c =
    let f = c.args.frame.now in
    let s = c.args.cell.now in
    let e = c.full.ensures.value ∙ sym (full_is f c.requires.frame) ∙ ap (λ (n : ℕ). full f.turn (origin_of f) (pos n)) c.requires.n in
    record {
      divisor_is = c.place_divisor-divisor.ensures;
      n_is = sym e ∙ sym (of_some (λ (r : ℤ). r *ℤ c.place_divisor-divisor.result ≡ c.full.result) c.div_exact.result c.unwrap.result c.div_exact.ensures.value c.unwrap.ensures) ∙ swapped c.unwrap.result c.place_divisor-divisor.result;
      k_is = c.moment_parts.ensures ∙ ap (λ (h : ℕ). divisor s.kind h * s.k) (index_size f.index (determinant f.turn) c.requires.frame.index);
      metric_is = c.changed_metric.ensures ∙ ap (metric_in f.turn) (c.matrix.ensures ∙ c.metric.ensures);
    }
