use Rattle.std.proofs.Common.{drop}
use Rattle.positions.specs.Positions.{triple_of}
use Rattle.op_group.proofs.LeastSteps.{IsLeastSoFar}
use Rattle.op_group.proofs.steps.least_step.Given as goal

-- the least of the steps so far
abbrev pub invariant-loop-i : goal.invariant-loop-i
invariant-loop-i l = IsLeastSoFar l.list.n l.list.operations (drop l.i l.list.operations) l.axis (triple_of l.least)
