use Rattle.std.proofs.Common.{◌≡◌, ℤ, pos, negsuc, unsigned_abs, sym, ap, ◌∙◌, subst, SFits, to_z, of_z, to_z-of_z, arith}
use mir.Syntax.{w128}
use Rattle.ring.proofs.Sizes.{fits}
use Rattle.matrix3.specs.Inverse.{IsUnit, one, minus_one}
use Rattle.matrix3.proofs.FitsBySize.{determinant_fits, adjugate_fits}
use Rattle.group_tests.proofs.operations.undone.Goals as goal

-- an integer of size 1 is 1 or -1
unit_of_size : (d : ℤ) → unsigned_abs d ≡ 1 → IsUnit d
unit_of_size (pos n) h = subst (λ k. IsUnit (pos k)) (sym h) one
unit_of_size (negsuc n) h = let e : n ≡ 0 = omega arith in subst (λ k. IsUnit (negsuc k)) (sym e) minus_one

pub handed-requires-clause-fits : goal.handed-requires-clause-fits
handed-requires-clause-fits c = determinant_fits _ c.operation-op.ensures tt tt

pub inverse-requires-clause-unit_determinant : goal.inverse-requires-clause-unit_determinant
inverse-requires-clause-unit_determinant c =
    let d = c.handed.result in
    let held = ap (λ z. to_z w128 (of_z w128 z)) c.get.ensures.value ∙ to_z-of_z (fits c.get.ensures.size tt) in
    let size : c.abs.result ≡ pos (unsigned_abs d) = c.abs.ensures.value ∙ ap (λ z. pos (unsigned_abs z)) held in
    let f : SFits w128 (pos (unsigned_abs d)) = fits (record { size = c.get.ensures.size.size }) tt in
    subst IsUnit c.handed.ensures.value (unit_of_size d (ap unsigned_abs (sym (to_z-of_z f) ∙ ap (λ z. to_z w128 (of_z w128 z)) (sym size) ∙ ap (to_z w128) c.if-abs-eq1.true)))

pub inverse-requires-clause-determinant_fits : goal.inverse-requires-clause-determinant_fits
inverse-requires-clause-determinant_fits c = determinant_fits _ c.operation-op.ensures tt tt

pub inverse-requires-clause-adjugate_fits : goal.inverse-requires-clause-adjugate_fits
inverse-requires-clause-adjugate_fits c = adjugate_fits _ c.operation-op.ensures tt
