use Rattle.std.proofs.Common.{◌≡◌, subst, sym, ◌∙◌, true, false}
use Rattle.std.specs.Prelude.{IsTrue, ◌↔◌, slice_get, Some}
use Rattle.crystal_spec.specs.Crystals.{Structure}
use Rattle.crystal.specs.Cells.{IsCellWithinLimits}
use Rattle.crystal.specs.Views.{atom_of}
use Rattle.positions.specs.Positions.{triple_of}
use Rattle.crystal_compare.specs.Maps.{HaveOneName}
use Rattle.crystal_compare.specs.Search.{HaveOneMoment}
use Rattle.crystal_compare.proofs.Imaging.{image_at, no_image_at}
use Rattle.crystal_compare.proofs.images.has_image_at.Goals as goal

pub returns-then-have_one_name : goal.returns-then-have_one_name
returns-then-have_one_name c =
    let one = c.args.one.now in
    let s = c.args.other.now in
    let same = c.cell-cell.ensures in
    let a = atom_of c.args.atom.now in
    let b = atom_of c.atom-onto.result.now in
    let at = subst (λ (t : Structure). slice_get t.atoms c.in-Some.i ≡ Some b) same c.atom-onto.ensures.value in
    let name : HaveOneName one s a.species b.species = subst (λ (t : Structure). HaveOneName one t a.species b.species) same (c.have_one_name.ensures.0 c.if-have_one_name.true) in
    let moment = subst (λ (t : Structure). IsTrue c.have_one_moment.result ↔ HaveOneMoment one t c.args.moments.now a b) same c.have_one_moment.ensures in
    image_at one s c.args.moments.now a (triple_of c.args.place) c.in-Some.i b (subst IsCellWithinLimits same c.invariant.ensures.form) c.in-Some.ensures.found at ((λ t. (name, moment.0 t)), (λ k. moment.1 k.1))

pub returns-else-have_one_name : goal.returns-else-have_one_name
returns-else-have_one_name c =
    let one = c.args.one.now in
    let s = c.args.other.now in
    let same = c.cell-cell.ensures in
    let a = atom_of c.args.atom.now in
    let b = atom_of c.atom-onto.result.now in
    let at = subst (λ (t : Structure). slice_get t.atoms c.in-Some.i ≡ Some b) same c.atom-onto.ensures.value in
    let name = subst (λ (t : Structure). IsTrue c.have_one_name.result ↔ HaveOneName one t a.species b.species) same c.have_one_name.ensures in
    let clash : c.have_one_name.result ≡ true → ⊥ = λ t. (let e : false ≡ true = sym c.if-have_one_name.false ∙ t in cc e) in
    image_at one s c.args.moments.now a (triple_of c.args.place) c.in-Some.i b (subst IsCellWithinLimits same c.invariant.ensures.form) c.in-Some.ensures.found at ((λ t. absurd (clash t)), (λ k. name.1 k.0))

pub returns-in-None : goal.returns-in-None
returns-in-None c = ((λ t. absurd (cc t)), (λ h. absurd (no_image_at c.args.one.now c.args.other.now c.args.moments.now (atom_of c.args.atom.now) (triple_of c.args.place) c.in-None.ensures.absent h)))
