use Rattle.std.proofs.Common.{◌≡◌, ◌<◌, ℕ, length, get_or, Some, sym, subst, ◌∙◌}
use Rattle.std.specs.Prelude.{slice_get, IfSome}
use Rattle.std.proofs.lemmas.Option.{slice_get-get_or}
use Rattle.op_group.specs.Groups.{IsGroupModulo}
use Rattle.moment_space.proofs.FillingAtoms.{group_site, few_site, small_site, site_at_orbit, n_at_orbit}
use Rattle.moments_text.specs.MomentsText.{allowed_by}
use Rattle.moments_text.proofs.AllowedCounts.{allowed_is}
use Rattle.moments_text.proofs.AtomLines.{no_orbit}
use Rattle.moments_text.proofs.moments.allowed_at.Goals as goal

pub projector-requires-clause-group : goal.projector-requires-clause-group
projector-requires-clause-group c =
    let o = c.requires.orbits in
    let room : c.args.i < length c.args.orbits.now = subst (λ (k : ℕ). c.args.i < k) (sym o.of_each_atom) c.requires.below in
    let at = site_at_orbit c.args.cell.now c.args.prim.now.cell c.args.prim.now.back o.operations c.args.orbits.now o.are_orbits c.args.i room c.site.result.now c.site.ensures in
    subst (λ (n : ℕ). IsGroupModulo n c.site.result.now.operations)
    (sym (n_at_orbit c.args.cell.now c.args.prim.now.cell c.args.prim.now.back o.operations c.args.orbits.now o.are_orbits c.args.i room c.site.result.now c.site.ensures c.requires.below))
    (group_site c.args.cell.now c.args.prim.now.cell c.args.prim.now.back o.operations c.site.result.now.operations c.args.i c.cell.result.now c.cell.ensures c.invariant-2.ensures.form c.invariant.ensures.form.niggli c.requires.primitive c.requires.same_cell o.all at c.requires.below)

pub projector-requires-clause-few : goal.projector-requires-clause-few
projector-requires-clause-few c =
    let o = c.requires.orbits in
    let room : c.args.i < length c.args.orbits.now = subst (λ (k : ℕ). c.args.i < k) (sym o.of_each_atom) c.requires.below in
    let at = site_at_orbit c.args.cell.now c.args.prim.now.cell c.args.prim.now.back o.operations c.args.orbits.now o.are_orbits c.args.i room c.site.result.now c.site.ensures in
    few_site c.args.cell.now c.args.prim.now.cell c.args.prim.now.back o.operations c.site.result.now.operations c.args.i c.cell.result.now c.cell.ensures c.invariant-2.ensures.form c.invariant.ensures.form.niggli c.requires.primitive c.requires.same_cell o.all at c.requires.below

pub projector-requires-clause-small : goal.projector-requires-clause-small
projector-requires-clause-small c =
    let o = c.requires.orbits in
    let room : c.args.i < length c.args.orbits.now = subst (λ (k : ℕ). c.args.i < k) (sym o.of_each_atom) c.requires.below in
    let at = site_at_orbit c.args.cell.now c.args.prim.now.cell c.args.prim.now.back o.operations c.args.orbits.now o.are_orbits c.args.i room c.site.result.now c.site.ensures in
    small_site c.args.cell.now c.args.prim.now.cell c.args.prim.now.back o.operations c.site.result.now.operations c.args.i c.cell.result.now c.cell.ensures c.invariant-2.ensures.form c.invariant.ensures.form.niggli c.requires.primitive c.requires.same_cell o.all at c.requires.below

pub returns : goal.returns
returns c =
    let kind = c.args.cell.now.kind in
    let orbits = c.args.orbits.now in
    let orbit = get_or orbits c.args.i no_orbit in
    let room : c.args.i < length orbits = subst (λ (k : ℕ). c.args.i < k) (sym c.requires.orbits.of_each_atom) c.requires.below in
    let here : slice_get orbits c.args.i ≡ Some orbit = slice_get-get_or orbits c.args.i no_orbit room in
    let site : c.site.result.now ≡ orbit.site = subst (λ found. IfSome found (λ o. c.site.result.now ≡ o.site)) here c.site.ensures in
    let is : c.projector.result ≡ allowed_by kind orbit.site.operations =
    allowed_is c.kind.result c.site.result.now.operations c.projector.result c.projector.ensures.kind c.projector.ensures.value c.projector.ensures.count
    ∙ (λ j. allowed_by (c.kind.ensures j) (site j).operations) in
    subst (λ found. IfSome found (λ o. c.projector.result ≡ allowed_by kind o.site.operations)) (sym here) is
