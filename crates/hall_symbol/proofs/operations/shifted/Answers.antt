use Rattle.std.proofs.Common.{◌≡◌, ◌∙◌, ◌^◌, pos, sym, ap, subst}
use Rattle.ring.specs.Ring.{int_ops}
use Rattle.ring.specs.Size.{AtMost}
use Rattle.matrix3.specs.Matrices.{EachEntry, vector_map}
use Rattle.matrix3.specs.Fits.{ProductFits}
use Rattle.matrix3.proofs.FitsBySize.{product_fits}
use Rattle.crystal_spec.specs.Matrices.{Matrix, identity, product}
use Rattle.crystal_spec.specs.Operations.{Operation}
use Rattle.basis_spec.specs.Translations.{pure_translation}
use Rattle.op_group.specs.Composition.{IsComposed}
use Rattle.op_group.specs.Views.{operation_of}
use Rattle.hall_symbol.proofs.RotationMatrices.{identity_small}
use Rattle.hall_symbol.proofs.Shifting.{product-identity, opposite_is, shifted_is}
use Rattle.hall_symbol.proofs.operations.shifted.Goals as goal

pub compose-requires-clause-fits : goal.compose-requires-clause-fits
compose-requires-clause-fits c =
    subst (λ (w : Matrix). ProductFits int_ops (AtMost (10 ^ 36)) c.args.op.now.w w) (sym (ap (λ (o : Operation). o.matrix) c.translation-back.ensures))
    (product_fits c.args.op.now.w identity c.requires.small identity_small tt)

pub compose-requires-2-clause-fits : goal.compose-requires-2-clause-fits
compose-requires-2-clause-fits c =
    let first : c.compose.result.w ≡ c.args.op.now.w = c.compose.ensures.matrix ∙ ap (product c.args.op.now.w) (ap (λ (o : Operation). o.matrix) c.translation-back.ensures) ∙ product-identity c.args.op.now.w in
    subst (λ (w : Matrix). ProductFits int_ops (AtMost (10 ^ 36)) w c.compose.result.w) (sym (ap (λ (o : Operation). o.matrix) c.translation.ensures))
    (product_fits identity c.compose.result.w identity_small (subst (EachEntry (AtMost 1)) (sym first) c.requires.small) tt)

pub returns : goal.returns
returns c =
    shifted_is (operation_of c.translation-back.result).translation (vector_map pos c.args.t) (operation_of c.args.op.now) (operation_of c.compose.result) (operation_of c.compose-2.result)
    (opposite_is c.args.t (operation_of c.translation-back.result).translation (ap (λ (o : Operation). o.translation) c.translation-back.ensures))
    (subst (λ (o : Operation). IsComposed 12 o (operation_of c.args.op.now) (operation_of c.compose.result)) (c.translation-back.ensures ∙ ap pure_translation (sym (ap (λ (o : Operation). o.translation) c.translation-back.ensures))) c.compose.ensures)
    (subst (λ (o : Operation). IsComposed 12 (operation_of c.compose.result) o (operation_of c.compose-2.result)) c.translation.ensures c.compose-2.ensures)
