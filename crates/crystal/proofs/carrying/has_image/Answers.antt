use Rattle.std.proofs.Common.{◌≡◌, ℕ, subst}
use Rattle.std.specs.Prelude.{IsTrue, ◌↔◌}
use Rattle.crystal_spec.specs.Matrices.{Triple, image}
use Rattle.crystal_spec.specs.Crystals.{position_after}
use Rattle.crystal.specs.Views.{atom_of}
use Rattle.positions.specs.Positions.{triple_of, modulo}
use Rattle.crystal.proofs.ImageLemmas.{occupied_at, unoccupied_at}
use Rattle.crystal.proofs.carrying.has_image.Goals as goal

pub returns-in-Some : goal.returns-in-Some
returns-in-Some c =
    let p = position_after c.args.action.now.matrix (triple_of c.args.shift) (triple_of c.args.atom.now.place) in
    let m = image c.args.moments.now c.args.atom.now.moment in
    let q = triple_of c.image-place.result in
    let f = subst (λ (n : ℕ). q ≡ modulo n p) c.requires.modulus c.image-place.ensures in
    let b = atom_of c.atom.result.now in
    occupied_at c.args.cell.now c.invariant.ensures.form c.args.atom.now.species p m q c.in-Some.i b f c.in-Some.ensures.found c.atom.ensures.value
    (subst (λ (v : Triple). IsTrue c.is_of.result ↔ ((b.species ≡ c.args.atom.now.species) × (b.moment ≡ v))) c.carried_moment-moment.ensures c.is_of.ensures)

pub returns-in-None : goal.returns-in-None
returns-in-None c =
    let p = position_after c.args.action.now.matrix (triple_of c.args.shift) (triple_of c.args.atom.now.place) in
    let m = image c.args.moments.now c.args.atom.now.moment in
    let q = triple_of c.image-place.result in
    let f = subst (λ (n : ℕ). q ≡ modulo n p) c.requires.modulus c.image-place.ensures in
    ((λ t. absurd (cc t)), (λ o. absurd (unoccupied_at c.args.cell.now c.invariant.ensures.form c.args.atom.now.species p m q f c.in-None.ensures.absent o)))
