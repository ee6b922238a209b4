use Rattle.std.proofs.Common.{◌≡◌, ◌<◌, ◌^◌, ℕ, pos, sym, ap, subst, ◌∙◌}
use Rattle.matrix3.proofs.FitsBySize.{determinant_fits, adjugate_fits}
use Rattle.crystal_spec.specs.Matrices.{product, identity}
use Rattle.basis_spec.specs.Metrics.{matrix_multiple}
use Rattle.op_group.specs.Steps.{HasInverse}
use Rattle.op_group.proofs.StepMatrices.{has_inverse, natural_index, found_small, found_steps, found_count, found_back_entries, found_fore_entries}
use Rattle.op_group.proofs.steps.step_basis.Goals as goal

pub inverse_times-back-requires : goal.inverse_times-back-requires
inverse_times-back-requires c =
    let below : c.args.list.now.n < 2 ^ 32 = subst (λ (k : ℕ). k < 2 ^ 32) c.n.ensures c.n.type_inv in
    subst (λ (k : ℕ). HasInverse k c.triangular_basis-basis.result) (sym c.n.ensures) (has_inverse c.args.list.now.n c.args.list.now.operations c.invariant.ensures.ordered c.invariant.ensures.within_cell c.requires.closed c.triangular_basis-basis.result c.triangular_basis-basis.ensures below c.requires.few)

pub adjugate-fore-requires-clause-fits : goal.adjugate-fore-requires-clause-fits
adjugate-fore-requires-clause-fits c =
    let below : c.args.list.now.n < 2 ^ 32 = subst (λ (k : ℕ). k < 2 ^ 32) c.n.ensures c.n.type_inv in
    let inverse : product c.triangular_basis-basis.result c.inverse_times-back.result ≡ matrix_multiple (pos c.args.list.now.n) identity = c.inverse_times-back.ensures ∙ ap (λ (k : ℕ). matrix_multiple (pos k) identity) c.n.ensures in
    adjugate_fits c.inverse_times-back.result (found_small c.args.list.now.n c.args.list.now.operations c.invariant.ensures.ordered c.invariant.ensures.within_cell c.requires.closed c.triangular_basis-basis.result c.triangular_basis-basis.ensures c.inverse_times-back.result inverse below c.requires.few) tt

pub index_of-requires-clause-fits : goal.index_of-requires-clause-fits
index_of-requires-clause-fits c =
    let below : c.args.list.now.n < 2 ^ 32 = subst (λ (k : ℕ). k < 2 ^ 32) c.n.ensures c.n.type_inv in
    let inverse : product c.triangular_basis-basis.result c.inverse_times-back.result ≡ matrix_multiple (pos c.args.list.now.n) identity = c.inverse_times-back.ensures ∙ ap (λ (k : ℕ). matrix_multiple (pos k) identity) c.n.ensures in
    determinant_fits c.inverse_times-back.result (found_small c.args.list.now.n c.args.list.now.operations c.invariant.ensures.ordered c.invariant.ensures.within_cell c.requires.closed c.triangular_basis-basis.result c.triangular_basis-basis.ensures c.inverse_times-back.result inverse below c.requires.few) tt tt

pub index_of-requires-clause-natural : goal.index_of-requires-clause-natural
index_of-requires-clause-natural c =
    let inverse : product c.triangular_basis-basis.result c.inverse_times-back.result ≡ matrix_multiple (pos c.args.list.now.n) identity = c.inverse_times-back.ensures ∙ ap (λ (k : ℕ). matrix_multiple (pos k) identity) c.n.ensures in
    natural_index c.args.list.now.n c.args.list.now.operations c.invariant.ensures.ordered c.invariant.ensures.within_cell c.requires.closed c.triangular_basis-basis.result c.triangular_basis-basis.ensures c.inverse_times-back.result inverse c.requires.few

pub returns-clause-steps : goal.returns-clause-steps
returns-clause-steps c =
    let inverse : product c.triangular_basis-basis.result c.inverse_times-back.result ≡ matrix_multiple (pos c.args.list.now.n) identity = c.inverse_times-back.ensures ∙ ap (λ (k : ℕ). matrix_multiple (pos k) identity) c.n.ensures in
    found_steps c.args.list.now.n c.args.list.now.operations c.invariant.ensures.ordered c.invariant.ensures.within_cell c.requires.closed c.triangular_basis-basis.result c.triangular_basis-basis.ensures c.inverse_times-back.result c.adjugate-fore.result c.index_of.result inverse c.index_of.ensures c.adjugate-fore.ensures.value

pub returns-clause-count : goal.returns-clause-count
returns-clause-count c =
    let inverse : product c.triangular_basis-basis.result c.inverse_times-back.result ≡ matrix_multiple (pos c.args.list.now.n) identity = c.inverse_times-back.ensures ∙ ap (λ (k : ℕ). matrix_multiple (pos k) identity) c.n.ensures in
    found_count c.args.list.now.n c.args.list.now.operations c.invariant.ensures.ordered c.invariant.ensures.within_cell c.requires.closed c.triangular_basis-basis.result c.triangular_basis-basis.ensures c.inverse_times-back.result c.adjugate-fore.result c.index_of.result inverse c.index_of.ensures c.adjugate-fore.ensures.value

pub returns-clause-back_entries : goal.returns-clause-back_entries
returns-clause-back_entries c =
    let inverse : product c.triangular_basis-basis.result c.inverse_times-back.result ≡ matrix_multiple (pos c.args.list.now.n) identity = c.inverse_times-back.ensures ∙ ap (λ (k : ℕ). matrix_multiple (pos k) identity) c.n.ensures in
    found_back_entries c.args.list.now.n c.args.list.now.operations c.invariant.ensures.ordered c.invariant.ensures.within_cell c.requires.closed c.triangular_basis-basis.result c.triangular_basis-basis.ensures c.inverse_times-back.result c.adjugate-fore.result c.index_of.result inverse c.index_of.ensures c.adjugate-fore.ensures.value

pub returns-clause-fore_entries : goal.returns-clause-fore_entries
returns-clause-fore_entries c =
    let inverse : product c.triangular_basis-basis.result c.inverse_times-back.result ≡ matrix_multiple (pos c.args.list.now.n) identity = c.inverse_times-back.ensures ∙ ap (λ (k : ℕ). matrix_multiple (pos k) identity) c.n.ensures in
    found_fore_entries c.args.list.now.n c.args.list.now.operations c.invariant.ensures.ordered c.invariant.ensures.within_cell c.requires.closed c.triangular_basis-basis.result c.triangular_basis-basis.ensures c.inverse_times-back.result c.adjugate-fore.result c.index_of.result inverse c.index_of.ensures c.adjugate-fore.ensures.value
