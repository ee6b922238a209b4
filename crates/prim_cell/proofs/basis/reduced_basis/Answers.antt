use Rattle.std.proofs.Common.{◌≡◌, ◌≤◌, ℕ, subst, sym, ap, ◌∙◌, ◌^◌, arith}
use Rattle.crystal_spec.specs.Matrices.{Matrix, product}
use Rattle.crystal_spec.specs.Crystals.{IsPositive}
use Rattle.crystal.specs.Views.{metric_of}
use Rattle.crystal.specs.declared.limits.TheConstants.{MOST_ATOMS}
use Rattle.matrix3.specs.Bounds.{EntriesAtMost}
use Rattle.matrix3.proofs.FitsBySize.{product_fits}
use Rattle.basis_spec.specs.Metrics.{metric_in}
use Rattle.basis_spec.specs.StepBases.{IsClosed, IsSteps, InLattice}
use Rattle.basis_spec.proofs.TranslationLists.{pure_closed}
use Rattle.prim_cell.specs.Primitives.{IsReducedBasis}
use Rattle.prim_cell.proofs.FewTranslations.{few_pure}
use Rattle.prim_cell.proofs.Ranges.{entries_of_each, step_metric_small}
use Rattle.prim_cell.proofs.ReducedBases.{IsReduction, reduced_basis, step_metric_positive}
use Rattle.prim_cell.proofs.basis.reduced_basis.Goals as goal

pub step_basis-steps-requires-clause-closed : goal.step_basis-steps-requires-clause-closed
step_basis-steps-requires-clause-closed c =
    let s = c.args.cell.now in
    let os = c.args.shifts.now.operations in
    subst (λ (n : ℕ). IsClosed n os) (sym c.requires.n) (pure_closed s os c.requires.exact c.invariant.ensures.cell.some_cells)

pub step_basis-steps-requires-clause-few : goal.step_basis-steps-requires-clause-few
step_basis-steps-requires-clause-few c =
    let h = few_pure c.args.cell.now c.invariant.ensures.cell c.invariant.ensures.form.few c.args.shifts.now.operations c.requires.exact in
    omega (arith, h)

pub changed_metric-requires-clause-columns : goal.changed_metric-requires-clause-columns
changed_metric-requires-clause-columns c =
    let h = few_pure c.args.cell.now c.invariant.ensures.cell c.invariant.ensures.form.few c.args.shifts.now.operations c.requires.exact in
    let e = c.step_basis-steps.ensures.count (λ o m. ((c.requires.exact.exact o).0 m).0) in
    entries_of_each c.step_basis-steps.result.index MOST_ATOMS c.step_basis-steps.result.fore (subst (λ (n : ℕ). n ≤ MOST_ATOMS) e h) c.step_basis-steps.ensures.fore_entries

pub reduce-reduced-requires-clause-positive : goal.reduce-reduced-requires-clause-positive
reduce-reduced-requires-clause-positive c =
    let s = c.args.cell.now in
    let os = c.args.shifts.now.operations in
    let found = c.step_basis-steps.result in
    let steps = subst (λ (n : ℕ). IsSteps n (InLattice n os) found.index found.back found.fore) c.requires.n c.step_basis-steps.ensures.steps in
    let is : metric_of c.changed_metric.result ≡ metric_in found.fore s.metric = c.changed_metric.ensures ∙ ap (metric_in found.fore) (c.matrix.ensures ∙ c.metric.ensures) in
    subst IsPositive (sym is) (step_metric_positive s c.invariant.ensures.cell os c.requires.exact found.index found.back found.fore steps c.step_basis-steps.ensures.determinant)

pub reduce-reduced-requires-clause-small : goal.reduce-reduced-requires-clause-small
reduce-reduced-requires-clause-small c =
    let s = c.args.cell.now in
    let found = c.step_basis-steps.result in
    let h = few_pure s c.invariant.ensures.cell c.invariant.ensures.form.few c.args.shifts.now.operations c.requires.exact in
    let e = c.step_basis-steps.ensures.count (λ o m. ((c.requires.exact.exact o).0 m).0) in
    let columns = entries_of_each found.index MOST_ATOMS found.fore (subst (λ (n : ℕ). n ≤ MOST_ATOMS) e h) c.step_basis-steps.ensures.fore_entries in
    let is : metric_of c.changed_metric.result ≡ metric_in found.fore s.metric = c.changed_metric.ensures ∙ ap (metric_in found.fore) (c.matrix.ensures ∙ c.metric.ensures) in
    subst (EntriesAtMost (10 ^ 16)) (sym is) (step_metric_small found.fore s.metric columns c.requires.metric)

pub times-requires-clause-fits : goal.times-requires-clause-fits
times-requires-clause-fits c =
    let found = c.step_basis-steps.result in
    let h = few_pure c.args.cell.now c.invariant.ensures.cell c.invariant.ensures.form.few c.args.shifts.now.operations c.requires.exact in
    let e = c.step_basis-steps.ensures.count (λ o m. ((c.requires.exact.exact o).0 m).0) in
    product_fits _ _ c.reduce-reduced.ensures.back_entries (entries_of_each found.index MOST_ATOMS found.back (subst (λ (n : ℕ). n ≤ MOST_ATOMS) e h) c.step_basis-steps.ensures.back_entries) tt

pub times-requires-2-clause-fits : goal.times-requires-2-clause-fits
times-requires-2-clause-fits c =
    let found = c.step_basis-steps.result in
    let h = few_pure c.args.cell.now c.invariant.ensures.cell c.invariant.ensures.form.few c.args.shifts.now.operations c.requires.exact in
    let e = c.step_basis-steps.ensures.count (λ o m. ((c.requires.exact.exact o).0 m).0) in
    product_fits _ _ (entries_of_each found.index MOST_ATOMS found.fore (subst (λ (n : ℕ). n ≤ MOST_ATOMS) e h) c.step_basis-steps.ensures.fore_entries) c.reduce-reduced.ensures.base_entries tt

pub returns : goal.returns
returns c =
    let s = c.args.cell.now in
    let os = c.args.shifts.now.operations in
    let found = c.step_basis-steps.result in
    let made = c.reduce-reduced.result in
    let m = made.metric in
    let steps = subst (λ (n : ℕ). IsSteps n (InLattice n os) found.index found.back found.fore) c.requires.n c.step_basis-steps.ensures.steps in
    let is : metric_of c.changed_metric.result ≡ metric_in found.fore s.metric = c.changed_metric.ensures ∙ ap (metric_in found.fore) (c.matrix.ensures ∙ c.metric.ensures) in
    let h = few_pure s c.invariant.ensures.cell c.invariant.ensures.form.few os c.requires.exact in
    let e = c.step_basis-steps.ensures.count (λ o m. ((c.requires.exact.exact o).0 m).0) in
    let columns = entries_of_each found.index MOST_ATOMS found.fore (subst (λ (n : ℕ). n ≤ MOST_ATOMS) e h) c.step_basis-steps.ensures.fore_entries in
    let small = subst (EntriesAtMost (10 ^ 16)) (sym is) (step_metric_small found.fore s.metric columns c.requires.metric) in
    let reduction = subst (λ (g : Matrix). IsReduction g (metric_of m) made.base made.back) is (record {
      niggli = c.reduce-reduced.ensures.niggli;
      metric = c.reduce-reduced.ensures.metric;
      unit_determinant = c.reduce-reduced.ensures.unit_determinant;
      inverse = c.reduce-reduced.ensures.inverse;
      inverse_left = c.reduce-reduced.ensures.inverse_left;
      kept = c.reduce-reduced.ensures.kept;
      entries = c.reduce-reduced.ensures.entries (10 ^ 16) small;
    }) in
    subst (λ (r : Matrix). IsReducedBasis s os found.index r c.times-2.result (metric_of m)) (sym c.times.ensures.value)
    (subst (λ (p : Matrix). IsReducedBasis s os found.index (product made.back found.back) p (metric_of m)) (sym c.times-2.ensures.value)
    (reduced_basis s c.invariant.ensures.cell c.invariant.ensures.form.few os c.requires.exact found.index found.back found.fore steps (record { aa = m.aa; bb = m.bb; cc = m.cc; bc = m.bc; ac = m.ac; ab = m.ab }) made.base made.back reduction c.requires.metric))
