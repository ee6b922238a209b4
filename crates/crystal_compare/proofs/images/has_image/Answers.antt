use Rattle.std.proofs.Common.{ℕ, subst, ap, ◌∙◌}
use Rattle.crystal_spec.specs.Crystals.{Structure}
use Rattle.crystal.specs.Cells.{IsCellWithinLimits}
use Rattle.crystal.specs.Views.{atom_of}
use Rattle.positions.specs.Positions.{triple_of}
use Rattle.crystal_compare.specs.Search.{IsCarriedPlace, IsBetweenPlaces}
use Rattle.crystal_compare.proofs.Imaging.{image_exactly, no_image}
use Rattle.crystal_compare.proofs.images.has_image.Goals as goal

pub returns-in-Some : goal.returns-in-Some
returns-in-Some c =
    let one = c.args.one.now in
    let s = c.args.other.now in
    let same = c.cell-cell.ensures in
    let a = atom_of c.args.atom.now in
    let q = triple_of c.in-Some.place in
    let there = subst (λ (m : ℕ). IsCarriedPlace one.n m c.args.w.now c.args.t.now a.position q) (c.n-2.ensures ∙ ap (λ (t : Structure). t.n) same)
    (subst (λ (n : ℕ). IsCarriedPlace n c.n-2.result c.args.w.now c.args.t.now a.position q) c.n.ensures c.in-Some.ensures.found) in
    image_exactly one s c.args.w.now c.args.t.now c.args.moments.now a q c.invariant.ensures.form (subst IsCellWithinLimits same c.invariant-2.ensures.form) there c.has_image_at.ensures

pub returns-in-None : goal.returns-in-None
returns-in-None c =
    let one = c.args.one.now in
    let s = c.args.other.now in
    let a = atom_of c.args.atom.now in
    let none = subst (λ (m : ℕ). IsBetweenPlaces one.n m c.args.w.now c.args.t.now a.position) (c.n-2.ensures ∙ ap (λ (t : Structure). t.n) c.cell-cell.ensures)
    (subst (λ (n : ℕ). IsBetweenPlaces n c.n-2.result c.args.w.now c.args.t.now a.position) c.n.ensures c.in-None.ensures.absent) in
    ((λ t. absurd (cc t)), (λ h. absurd (no_image one s c.args.w.now c.args.t.now c.args.moments.now a none h)))
