use Rattle.std.proofs.Common.{sym, ap, subst, ◌∙◌, rules}
use Rattle.std.specs.Prelude.{IsTrue, IsSome, IfSome}
use Rattle.std.specs.declared.option.Option.{Option}
use Rattle.crystal_spec.specs.Matrices.{Triple, Matrix}
use Rattle.crystal_spec.specs.declared.MomentKind.{MomentKind}
use Rattle.crystal_spec.specs.Moments.{IsOfKind}
use Rattle.crystal_spec.specs.Crystals.{Structure}
use Rattle.moment_space.specs.Projectors.{IsAllowed}
use Rattle.moment_space.specs.Filled.{IsFilledAt, IsKeptBy}
use Rattle.moments_text.specs.FilledText.{filled_text}
use Rattle.report_basis.specs.declared.Kept.{Kept}
use Rattle.answers.specs.FillReports.{IsFillingReport, IsRefusedThere}
use Rattle.answers.proofs.FillLemmas.{refused, fill_report}
use Rattle.answers.proofs.fill.answer_on_site.Goals as goal

-- a scalar has no second and third component
pub returns-then-not-is_of_kind : goal.returns-then-not-is_of_kind
returns-then-not-is_of_kind c =
    let s = c.args.cell.now in
    let p = c.args.found.now.made in
    let site = c.args.site.now.operations in
    let m = c.moment_of-m.result in
    let no : IsTrue c.is_of_kind.result → ⊥ = search rules in
    subst (λ (q : Matrix). IsRefusedThere s q c.args.filling.now) (sym c.back.ensures)
    (refused s p c.args.found.now.group c.args.filling.now c.args.atom site c.requires.found c.requires.number c.requires.below c.requires.site
    (λ allowed. no (c.is_of_kind.ensures.1 (subst (λ (k : MomentKind). IsOfKind k m) (sym c.kind.ensures) (subst (λ (t : Triple). IsOfKind s.kind t) (sym c.moment_of-m.ensures.value) allowed.0)))))

-- the site does not allow the moment
pub returns-in-None : goal.returns-in-None
returns-in-None c =
    let s = c.args.cell.now in
    let p = c.args.found.now.made in
    let site = c.args.site.now.operations in
    let no : IsSome c.in_ok-fill.field-0 → ⊥ = search rules in
    subst (λ (q : Matrix). IsRefusedThere s q c.args.filling.now) (sym c.back-in-None.ensures)
    (refused s p c.args.found.now.group c.args.filling.now c.args.atom site c.requires.found c.requires.number c.requires.below c.requires.site
    (λ allowed. no (c.in_ok-fill.ensures.exact.1 (subst (λ (t : Triple). IsAllowed s.kind site t) (sym c.moment_of-m.ensures.value) allowed.1))))

pub returns-in_ok-text-in-Some : goal.returns-in_ok-text-in-Some
returns-in_ok-text-in-Some c =
    let s = c.args.cell.now in
    let p = c.args.found.now.made in
    let list = c.args.found.now.group in
    let f = c.args.filling.now in
    let site = c.args.site.now.operations in
    let m = c.moment_of-m.result in
    let filled = c.in-Some.filled in
    let text = c.in_ok-text-in-Some.text in
    let yes : IsTrue c.is_of_kind.result = search rules in
    let some : IsSome c.in_ok-fill.field-0 = search rules in
    let of_kind = subst (λ (k : MomentKind). IsOfKind k m) c.kind.ensures (c.is_of_kind.ensures.0 yes) in
    let is_filled = subst (λ (o : Option Structure). IfSome o (λ (t : Structure). IsFilledAt s p.back p.cell list.operations c.args.atom m t)) c.in-Some.is c.in_ok-fill.ensures.value in
    let kept = subst (λ (o : Option Structure). IfSome o (λ (t : Structure). IsKeptBy list.operations t)) c.in-Some.is c.in_ok-fill.ensures.kept in
    subst (λ (k : Kept). IsFillingReport s f k text) (sym c.kept.ensures)
    (fill_report s p list f c.args.atom site c.requires.found c.requires.number c.requires.below c.requires.site filled m text c.moment_of-m.ensures.value of_kind (c.in_ok-fill.ensures.exact.0 some) is_filled kept
    (c.in_ok-text-in-Some.ensures.value ∙ ap (λ (q : Matrix). filled_text q filled) c.back-in-Some.ensures))
