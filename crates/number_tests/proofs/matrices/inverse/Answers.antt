use Rattle.std.proofs.Common.{◌≡◌, pos, unsigned_abs, sym, ap, ◌∙◌, subst, SFits, to_z, of_z, to_z-of_z}
use mir.Syntax.{w128}
use Rattle.ring.proofs.Sizes.{fits}
use Rattle.matrix3.specs.Inverse.{IsUnit}
use Rattle.matrix3.proofs.FitsBySize.{determinant_fits, adjugate_fits}
use Rattle.matrix3.proofs.InverseLemmas.{unit_of_abs}
use Rattle.number_tests.proofs.matrices.inverse.Goals as goal

pub handed-requires-clause-fits : goal.handed-requires-clause-fits
handed-requires-clause-fits c = determinant_fits _ c.matrix-a.ensures tt tt

pub inverse_unit-requires-clause-unit_determinant :
    goal.inverse_unit-requires-clause-unit_determinant
inverse_unit-requires-clause-unit_determinant c =
    let d = c.handed.result in
    let held = ap (λ z. to_z w128 (of_z w128 z)) c.get.ensures.value ∙ to_z-of_z (fits c.get.ensures.size tt) in
    let size : c.abs.result ≡ pos (unsigned_abs d) = c.abs.ensures.value ∙ ap (λ z. pos (unsigned_abs z)) held in
    let f : SFits w128 (pos (unsigned_abs d)) = fits (record { size = c.get.ensures.size.size }) tt in
    subst IsUnit c.handed.ensures.value (unit_of_abs d (ap unsigned_abs (sym (to_z-of_z f) ∙ ap (λ z. to_z w128 (of_z w128 z)) (sym size) ∙ ap (to_z w128) c.if-abs-eq1.true)))

pub inverse_unit-requires-clause-determinant_fits :
    goal.inverse_unit-requires-clause-determinant_fits
inverse_unit-requires-clause-determinant_fits c = determinant_fits _ c.matrix-a.ensures tt tt

pub inverse_unit-requires-clause-adjugate_fits : goal.inverse_unit-requires-clause-adjugate_fits
inverse_unit-requires-clause-adjugate_fits c = adjugate_fits _ c.matrix-a.ensures tt
