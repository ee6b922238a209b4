use Rattle.std.proofs.Common.{sym, ◌∙◌}
use Rattle.crystal_spec.specs.Matrices.{determinant}
use Rattle.crystal_spec.proofs.Moments.{axial_factor-axial, axial_factor-plain}
use Rattle.matrix3.proofs.FitsBySize.{determinant_fits}
use Rattle.crystal.proofs.moments.axial_factor.Goals as goal

pub handed-requires-clause-fits : goal.handed-requires-clause-fits
handed-requires-clause-fits c = determinant_fits _ c.requires.map tt tt

pub returns-then-kind : goal.returns-then-kind
returns-then-kind c = c.handed.ensures.value ∙ sym (axial_factor-axial c.args.kind (determinant c.args.w.now) c.if-kind.true)

pub returns-else-kind : goal.returns-else-kind
returns-else-kind c = c.from.ensures ∙ sym (axial_factor-plain c.args.kind (determinant c.args.w.now) c.if-kind.false)
