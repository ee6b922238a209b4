use Rattle.std.proofs.Common.{◌≡◌, sym, ap, subst, ◌∙◌, ℕ, List, length, map}
use Rattle.crystal_spec.specs.Matrices.{Matrix, image}
use Rattle.crystal_spec.specs.Crystals.{Structure}
use Rattle.crystal_spec.specs.Cells.{IsCell}
use Rattle.crystal.specs.Cells.{IsCellWithinLimits}
use Rattle.crystal.specs.Views.{atom_of}
use Rattle.basis_spec.specs.Bases.{SameCrystal}
use Rattle.positions.specs.Positions.{modulo, triple_of}
use Rattle.site_orbits.specs.Entries.{AtomOrbit, IsOrbitAt}
use Rattle.site_orbits.specs.Images.{atoms_at, IsFirstAmong}
use Rattle.site_orbits.proofs.Making.{IsFound, orbit_found}
use Rattle.site_orbits.proofs.Small.{small_of_all}
use Rattle.site_orbits.proofs.equivalent.orbit_of.Goals as goal

pub images-requires-clause-small : goal.images-requires-clause-small
images-requires-clause-small c =
    let cell = subst (λ (s : Structure). IsCell s) c.cell.ensures c.invariant-3.ensures.cell in
    small_of_all c.args.prim.now.cell c.args.list.now.operations c.invariant.ensures.form.niggli cell.symmetric c.requires.group

pub fixing-requires-clause-small : goal.fixing-requires-clause-small
fixing-requires-clause-small c =
    let cell = subst (λ (s : Structure). IsCell s) c.cell.ensures c.invariant-3.ensures.cell in
    small_of_all c.args.prim.now.cell c.args.list.now.operations c.invariant.ensures.form.niggli cell.symmetric c.requires.group

pub returns : goal.returns
returns c =
    let s = c.args.cell.now in
    let b = c.args.prim.now.cell in
    let r = c.args.prim.now.back in
    let os = c.args.list.now.operations in
    let x = atom_of c.atom.result.now in
    let found = c.in_ok-images.images.items in
    let qs = map triple_of found in
    let o : AtomOrbit = record { first = c.first_among-first.result; size = c.count_among-size.result; site = c.in_ok-site.site } in
    let primitive : IsCellWithinLimits b = subst (λ (t : Structure). IsCellWithinLimits t) c.cell.ensures c.invariant-3.ensures.form in
    let same : SameCrystal s b r = subst (λ (t : Structure). SameCrystal s t r) c.requires.same_cell c.requires.primitive.same in
    let first : IsFirstAmong s.n r qs s.atoms c.args.i o.first =
    subst (λ (l : List (List ℕ)). IsFirstAmong s.n r (map triple_of l) s.atoms c.args.i o.first) c.deref.ensures.value
    (subst (λ (m : Matrix). IsFirstAmong s.n m (map triple_of c.deref.result.now) s.atoms c.args.i o.first) c.back-2.ensures c.first_among-first.ensures) in
    let size : o.size ≡ length (atoms_at qs b.atoms) =
    c.count_among-size.ensures ∙ ap (λ (l : List (List ℕ)). length (atoms_at (map triple_of l) c.cell-2.result.now.atoms)) c.deref-2.ensures.value ∙ ap (λ (t : Structure). length (atoms_at qs t.atoms)) c.cell-2.ensures in
    let is_found : IsFound s r b os c.args.i c.args.list.now.n (triple_of c.image-place.result) qs o = record {
      atom = x;
      is_atom = c.atom.ensures.value;
      place_is = c.image-place.ensures ∙ (λ i. modulo ((c.new.ensures.modulus ∙ c.n.ensures) i) (image ((c.new.ensures.matrix ∙ c.back.ensures) i) x.position));
      images_are = c.in_ok-images.ensures;
      first = first;
      size = size;
      same_n = c.in_ok-site.ensures.n;
      ordered = c.in_ok-site.ensures.ordered;
      exact = c.in_ok-site.ensures.exact;
    } in
    subst (IsOrbitAt s r b os c.args.i) (sym c.new-2.ensures) (orbit_found s b r os c.invariant-2.ensures.cell primitive same c.requires.group c.args.i c.args.list.now.n (triple_of c.image-place.result) qs o c.requires.n is_found)
