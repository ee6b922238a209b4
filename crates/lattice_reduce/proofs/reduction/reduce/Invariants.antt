use Rattle.lattice_reduce.specs.Steps.{tensor_of}
use Rattle.lattice_reduce.proofs.Measure.{measure}
use Rattle.lattice_reduce.proofs.Reducing.{IsReducing}
use Rattle.lattice_reduce.proofs.reduction.reduce.Given as goal

abbrev pub invariant-loop-step : goal.invariant-loop-step
invariant-loop-step l = IsReducing (tensor_of l.metric) (tensor_of l.now) l.base l.back

abbrev pub decreases-loop-step : goal.decreases-loop-step
decreases-loop-step l = measure (tensor_of l.now)
