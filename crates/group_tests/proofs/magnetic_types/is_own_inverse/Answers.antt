use Rattle.std.proofs.Common.{◌≡◌, refl, sym, subst, ◌∙◌, true, is_eq}
use Rattle.std.specs.declared.cmp.Ordering.{Ordering}
use Rattle.std.specs.declared.cmp.Ordering.TheVariants.{Less, Equal, Greater}
use Rattle.matrix3.proofs.FitsBySize.{product_fits}
use Rattle.crystal_spec.proofs.Ordered.{compare_exact}
use Rattle.op_group.specs.Views.{operation_of}
use Rattle.op_group.specs.Composition.{IsComposed}
use Rattle.group_tests.proofs.magnetic_types.is_own_inverse.Goals as goal

tied : (o : Ordering) → is_eq o ≡ true → o ≡ Equal
tied Less e = absurd (cc e)
tied Equal e = refl
tied Greater e = absurd (cc e)

pub compose-requires-clause-fits : goal.compose-requires-clause-fits
compose-requires-clause-fits c = product_fits _ _ c.requires.size c.requires.size tt

pub returns : goal.returns
returns c h =
    let o = operation_of c.args.op.now in
    let same = tied c.compare.result (sym c.is_eq.ensures ∙ h) in
    subst (IsComposed c.args.n o o) (compare_exact (operation_of c.compose.result) (operation_of c.nothing.result) (sym c.compare.ensures ∙ same) ∙ c.nothing.ensures) c.compose.ensures
