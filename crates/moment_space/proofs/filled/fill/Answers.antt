use Rattle.std.proofs.Common.{◌≡◌, ℕ, true, refl, sym, subst, ◌∙◌}
use Rattle.crystal_spec.specs.declared.MomentKind.{MomentKind}
use Rattle.crystal_spec.specs.Matrices.{image}
use Rattle.crystal_spec.specs.Crystals.{Structure}
use Rattle.crystal.specs.Views.{atom_of}
use Rattle.positions.specs.Positions.{modulo, triple_of}
use Rattle.op_group.specs.Groups.{IsGroupModulo}
use Rattle.moment_space.specs.Projectors.{IsAllowed}
use Rattle.moment_space.specs.Replacements.{HasReplaced}
use Rattle.moment_space.proofs.FillingAtoms.{small_list, unit_list, own_allowed, one_there, group_site, few_site, small_site, filled_there, kept_there}
use Rattle.moment_space.proofs.filled.fill.Goals as goal

pub projector-requires-clause-group : goal.projector-requires-clause-group
projector-requires-clause-group c =
    subst (λ (n : ℕ). IsGroupModulo n c.args.site.now.operations) (sym c.requires.site_n)
    (group_site c.args.cell.now c.args.prim.now.cell c.args.prim.now.back c.args.list.now.operations c.args.site.now.operations c.args.atom c.cell.result.now c.cell.ensures c.invariant-3.ensures.form c.invariant.ensures.form.niggli c.requires.primitive c.requires.same_cell c.requires.group c.requires.site c.requires.below)

pub projector-requires-clause-few : goal.projector-requires-clause-few
projector-requires-clause-few c = few_site c.args.cell.now c.args.prim.now.cell c.args.prim.now.back c.args.list.now.operations c.args.site.now.operations c.args.atom c.cell.result.now c.cell.ensures c.invariant-3.ensures.form c.invariant.ensures.form.niggli c.requires.primitive c.requires.same_cell c.requires.group c.requires.site c.requires.below

pub projector-requires-clause-small : goal.projector-requires-clause-small
projector-requires-clause-small c = small_site c.args.cell.now c.args.prim.now.cell c.args.prim.now.back c.args.list.now.operations c.args.site.now.operations c.args.atom c.cell.result.now c.cell.ensures c.invariant-3.ensures.form c.invariant.ensures.form.niggli c.requires.primitive c.requires.same_cell c.requires.group c.requires.site c.requires.below

pub returns-then-not-allows-clause-one_moment : goal.returns-then-not-allows-clause-one_moment
returns-then-not-allows-clause-one_moment c = one_there c.args.cell.now c.args.prim.now.cell c.args.prim.now.back c.args.list.now.operations c.args.site.now.operations c.args.atom c.cell.result.now c.cell.ensures c.invariant-3.ensures.form c.invariant.ensures.form.niggli c.requires.primitive c.requires.same_cell c.requires.group c.requires.site

pub returns-then-not-allows-clause-own_moment : goal.returns-then-not-allows-clause-own_moment
returns-then-not-allows-clause-own_moment c = own_allowed c.args.cell.now c.args.prim.now.cell c.args.prim.now.back c.args.list.now.operations c.args.site.now.operations c.args.atom c.cell.result.now c.cell.ensures c.invariant-3.ensures.form c.invariant.ensures.form.niggli c.requires.primitive c.requires.same_cell c.requires.group c.requires.site

pub filled-requires-clause-small : goal.filled-requires-clause-small
filled-requires-clause-small c = small_list c.args.cell.now c.args.prim.now.cell c.args.prim.now.back c.args.list.now.operations c.args.site.now.operations c.args.atom c.cell.result.now c.cell.ensures c.invariant-3.ensures.form c.invariant.ensures.form.niggli c.requires.primitive c.requires.same_cell c.requires.group c.requires.site

pub filled-requires-clause-units : goal.filled-requires-clause-units
filled-requires-clause-units c = unit_list c.args.cell.now c.args.prim.now.cell c.args.prim.now.back c.args.list.now.operations c.args.site.now.operations c.args.atom c.cell.result.now c.cell.ensures c.invariant-3.ensures.form c.invariant.ensures.form.niggli c.requires.primitive c.requires.same_cell c.requires.group c.requires.site

pub returns-in_err-made-clause-one_moment : goal.returns-in_err-made-clause-one_moment
returns-in_err-made-clause-one_moment c = one_there c.args.cell.now c.args.prim.now.cell c.args.prim.now.back c.args.list.now.operations c.args.site.now.operations c.args.atom c.cell.result.now c.cell.ensures c.invariant-3.ensures.form c.invariant.ensures.form.niggli c.requires.primitive c.requires.same_cell c.requires.group c.requires.site

pub returns-in_err-made-clause-own_moment : goal.returns-in_err-made-clause-own_moment
returns-in_err-made-clause-own_moment c = own_allowed c.args.cell.now c.args.prim.now.cell c.args.prim.now.back c.args.list.now.operations c.args.site.now.operations c.args.atom c.cell.result.now c.cell.ensures c.invariant-3.ensures.form c.invariant.ensures.form.niggli c.requires.primitive c.requires.same_cell c.requires.group c.requires.site

pub returns-clause-one_moment : goal.returns-clause-one_moment
returns-clause-one_moment c = one_there c.args.cell.now c.args.prim.now.cell c.args.prim.now.back c.args.list.now.operations c.args.site.now.operations c.args.atom c.cell.result.now c.cell.ensures c.invariant-3.ensures.form c.invariant.ensures.form.niggli c.requires.primitive c.requires.same_cell c.requires.group c.requires.site

pub returns-clause-own_moment : goal.returns-clause-own_moment
returns-clause-own_moment c = own_allowed c.args.cell.now c.args.prim.now.cell c.args.prim.now.back c.args.list.now.operations c.args.site.now.operations c.args.atom c.cell.result.now c.cell.ensures c.invariant-3.ensures.form c.invariant.ensures.form.niggli c.requires.primitive c.requires.same_cell c.requires.group c.requires.site

pub returns-clause-exact : goal.returns-clause-exact
returns-clause-exact c =
    let kind = c.args.cell.now.kind in
    let yes : c.allows.result ≡ true = c.if-not-allows.false in
    let allowed : IsAllowed kind c.args.site.now.operations c.args.m.now = subst (λ (k : MomentKind). IsAllowed k c.args.site.now.operations c.args.m.now) c.kind.ensures ((c.projector.ensures.exact c.args.m.now).0 (c.allows.ensures.0 yes)) in
    ((λ t. allowed), (λ h. refl))

pub returns-clause-value : goal.returns-clause-value
returns-clause-value c =
    let s = c.args.cell.now in
    let b = c.args.prim.now.cell in
    let r = c.args.prim.now.back in
    let os = c.args.list.now.operations in
    let yes : c.allows.result ≡ true = c.if-not-allows.false in
    let allowed : IsAllowed s.kind c.args.site.now.operations c.args.m.now = subst (λ (k : MomentKind). IsAllowed k c.args.site.now.operations c.args.m.now) c.kind.ensures ((c.projector.ensures.exact c.args.m.now).0 (c.allows.ensures.0 yes)) in
    let x = atom_of c.atom.result.now in
    let p = triple_of c.image-place.result in
    let place : p ≡ modulo s.n (image r x.position) = c.image-place.ensures ∙ (λ i. modulo ((c.new.ensures.modulus ∙ c.n.ensures) i) (image ((c.new.ensures.matrix ∙ c.back.ensures) i) x.position)) in
    let replaced : HasReplaced b.kind b.n os p c.args.m.now b.atoms b c.in_ok-made.made =
    subst (λ (n : ℕ). HasReplaced b.kind n os p c.args.m.now b.atoms b c.in_ok-made.made) c.requires.n
    (subst (λ (t : Structure). HasReplaced t.kind c.args.list.now.n os p c.args.m.now t.atoms t c.in_ok-made.made) c.cell-2.ensures c.in_ok-made.ensures) in
    filled_there c.args.cell.now c.args.prim.now.cell c.args.prim.now.back c.args.list.now.operations c.args.site.now.operations c.args.atom c.cell.result.now c.cell.ensures c.invariant-3.ensures.form c.invariant.ensures.form.niggli c.requires.primitive c.requires.same_cell c.requires.group c.requires.site c.args.m.now allowed x c.atom.ensures.value p place c.in_ok-made.made replaced

pub returns-clause-kept : goal.returns-clause-kept
returns-clause-kept c =
    let s = c.args.cell.now in
    let b = c.args.prim.now.cell in
    let r = c.args.prim.now.back in
    let os = c.args.list.now.operations in
    let yes : c.allows.result ≡ true = c.if-not-allows.false in
    let allowed : IsAllowed s.kind c.args.site.now.operations c.args.m.now = subst (λ (k : MomentKind). IsAllowed k c.args.site.now.operations c.args.m.now) c.kind.ensures ((c.projector.ensures.exact c.args.m.now).0 (c.allows.ensures.0 yes)) in
    let x = atom_of c.atom.result.now in
    let p = triple_of c.image-place.result in
    let place : p ≡ modulo s.n (image r x.position) = c.image-place.ensures ∙ (λ i. modulo ((c.new.ensures.modulus ∙ c.n.ensures) i) (image ((c.new.ensures.matrix ∙ c.back.ensures) i) x.position)) in
    let replaced : HasReplaced b.kind b.n os p c.args.m.now b.atoms b c.in_ok-made.made =
    subst (λ (n : ℕ). HasReplaced b.kind n os p c.args.m.now b.atoms b c.in_ok-made.made) c.requires.n
    (subst (λ (t : Structure). HasReplaced t.kind c.args.list.now.n os p c.args.m.now t.atoms t c.in_ok-made.made) c.cell-2.ensures c.in_ok-made.ensures) in
    kept_there c.args.cell.now c.args.prim.now.cell c.args.prim.now.back c.args.list.now.operations c.args.site.now.operations c.args.atom c.cell.result.now c.cell.ensures c.invariant-3.ensures.form c.invariant.ensures.form.niggli c.requires.primitive c.requires.same_cell c.requires.group c.requires.site c.args.m.now allowed x c.atom.ensures.value p place c.in_ok-made.made replaced c.invariant-5.ensures.form
