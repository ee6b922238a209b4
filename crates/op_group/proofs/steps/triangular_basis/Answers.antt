use Rattle.op_group.proofs.TriangularBases.{basis_of_steps}
use Rattle.op_group.proofs.steps.triangular_basis.Goals as goal

pub returns : goal.returns
returns c =
    basis_of_steps c.args.list.now.n c.args.list.now.operations c.requires.closed c.least_step.result c.least_step-2.result c.least_step-3.result c.less_multiple-x3.result _
    c.least_step.ensures c.least_step-2.ensures c.least_step-3.ensures c.less_multiple-x3.ensures c.upper.ensures
