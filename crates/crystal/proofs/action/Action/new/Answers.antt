use Rattle.std.proofs.Common.{◌≡◌, sym, subst, ◌⊎◌, inl, inr}
use Rattle.std.specs.Prelude.{ℤ, pos, negsuc}
use Rattle.matrix3.specs.Inverse.{IsUnit, one, minus_one}
use Rattle.matrix3.proofs.FitsBySize.{determinant_fits, adjugate_fits}
use Rattle.crystal_spec.proofs.Isometries.{determinant-isometry, unit_cases}
use Rattle.crystal_spec.specs.Matrices.{determinant}
use Rattle.crystal.proofs.action.Action.new.Goals as goal

unit_of : (d : ℤ) → (d ≡ pos 1) ⊎ (d ≡ negsuc 0) → IsUnit d
unit_of d (inl e) = subst IsUnit (sym e) one
unit_of d (inr e) = subst IsUnit (sym e) minus_one

pub inverse_unit-requires-clause-unit_determinant : goal.inverse_unit-requires-clause-unit_determinant
inverse_unit-requires-clause-unit_determinant c =
    let d = determinant c.args.w.now in
    unit_of d (unit_cases d (determinant-isometry c.args.cell.now.metric c.args.w.now c.invariant.ensures.form.positive c.requires.isometry))

pub inverse_unit-requires-clause-determinant_fits : goal.inverse_unit-requires-clause-determinant_fits
inverse_unit-requires-clause-determinant_fits c = determinant_fits c.args.w.now c.requires.map tt tt

pub inverse_unit-requires-clause-adjugate_fits : goal.inverse_unit-requires-clause-adjugate_fits
inverse_unit-requires-clause-adjugate_fits c = adjugate_fits c.args.w.now c.requires.map tt

pub moment_matrix-requires-clause-isometry : goal.moment_matrix-requires-clause-isometry
moment_matrix-requires-clause-isometry c = determinant-isometry c.args.cell.now.metric c.args.w.now c.invariant.ensures.form.positive c.requires.isometry

pub moment_matrix-requires-2-clause-isometry : goal.moment_matrix-requires-2-clause-isometry
moment_matrix-requires-2-clause-isometry c = determinant-isometry c.args.cell.now.metric c.args.w.now c.invariant.ensures.form.positive c.requires.isometry
