use Rattle.std.proofs.Common.{◌∙◌, ap}
use Rattle.crystal_spec.specs.Matrices.{Matrix, product}
use Rattle.lattice_reduce.specs.Steps.{tensor_of}
use Rattle.lattice_reduce.proofs.Reducing.{reducing_start, reducing_next, next_lower, reducing_entries, next_entries, reducing_diagonal, base_entries, back_entries, base_fits, back_fits}
use Rattle.lattice_reduce.proofs.reduction.reduce.Goals as goal

pub loop-step-init : goal.loop-step-init
loop-step-init c = reducing_start (tensor_of c.args.metric.now) c.identity-base.result c.identity-back.result c.identity-base.ensures c.identity-back.ensures

pub choose-requires-clause-small : goal.choose-requires-clause-small
choose-requires-clause-small c = reducing_entries (tensor_of c.args.metric.now) (tensor_of c.loop-step.now) c.loop-step.base c.loop-step.back _ c.requires.positive c.loop-step.invariant c.requires.small

pub choose-requires-clause-diagonal : goal.choose-requires-clause-diagonal
choose-requires-clause-diagonal c = reducing_diagonal (tensor_of c.args.metric.now) (tensor_of c.loop-step.now) c.loop-step.base c.loop-step.back c.requires.positive c.loop-step.invariant

pub after_step-now-requires-clause-before : goal.after_step-now-requires-clause-before
after_step-now-requires-clause-before c = reducing_entries (tensor_of c.args.metric.now) (tensor_of c.loop-step.now) c.loop-step.base c.loop-step.back _ c.requires.positive c.loop-step.invariant c.requires.small

pub after_step-now-requires-clause-after : goal.after_step-now-requires-clause-after
after_step-now-requires-clause-after c = next_entries (tensor_of c.args.metric.now) (tensor_of c.loop-step.now) c.loop-step.base c.loop-step.back c.in-Some.step _ c.requires.positive c.loop-step.invariant c.in-Some.ensures c.requires.small

pub times-base-requires-clause-fits : goal.times-base-requires-clause-fits
times-base-requires-clause-fits c = base_fits (tensor_of c.args.metric.now) (tensor_of c.loop-step.now) c.loop-step.base c.loop-step.back c.in-Some.step c.step_matrix.result c.requires.positive c.requires.small c.loop-step.invariant c.in-Some.ensures c.step_matrix.ensures

pub times-back-requires-clause-fits : goal.times-back-requires-clause-fits
times-back-requires-clause-fits c = back_fits (tensor_of c.args.metric.now) (tensor_of c.loop-step.now) c.loop-step.base c.loop-step.back c.in-Some.step c.step_inverse.result c.requires.positive c.requires.small c.loop-step.invariant c.in-Some.ensures c.step_inverse.ensures

pub loop-step-smaller : goal.loop-step-smaller
loop-step-smaller c = next_lower (tensor_of c.args.metric.now) (tensor_of c.loop-step.now) (tensor_of c.after_step-now.result) c.loop-step.base c.loop-step.back c.in-Some.step c.requires.positive c.requires.small c.loop-step.invariant c.in-Some.ensures c.after_step-now.ensures

pub loop-step-preserved : goal.loop-step-preserved
loop-step-preserved c =
    reducing_next (tensor_of c.args.metric.now) (tensor_of c.loop-step.now) (tensor_of c.after_step-now.result) c.loop-step.base c.loop-step.back c.times-base.result c.times-back.result c.in-Some.step
    c.loop-step.invariant c.in-Some.ensures c.after_step-now.ensures
    (c.times-base.ensures.value ∙ ap (λ (x : Matrix). product c.loop-step.base x) c.step_matrix.ensures)
    (c.times-back.ensures.value ∙ ap (λ (x : Matrix). product x c.loop-step.back) c.step_inverse.ensures)

pub returns-clause-entries : goal.returns-clause-entries
returns-clause-entries c = λ m small. reducing_entries (tensor_of c.args.metric.now) (tensor_of c.loop-step.now) c.loop-step.base c.loop-step.back m c.requires.positive c.loop-step.invariant small

pub returns-clause-base_entries : goal.returns-clause-base_entries
returns-clause-base_entries c = base_entries (tensor_of c.args.metric.now) (tensor_of c.loop-step.now) c.loop-step.base c.loop-step.back c.requires.positive c.requires.small c.loop-step.invariant

pub returns-clause-back_entries : goal.returns-clause-back_entries
returns-clause-back_entries c = back_entries (tensor_of c.args.metric.now) (tensor_of c.loop-step.now) c.loop-step.base c.loop-step.back c.requires.positive c.requires.small c.loop-step.invariant
