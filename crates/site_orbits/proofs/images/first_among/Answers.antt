use Rattle.std.proofs.Common.{◌≡◌, refl, sym, subst, ◌∙◌, inl, inr, true, map, arith}
use Rattle.std.proofs.lemmas.Option.{same_Some}
use Rattle.lists.specs.Increasing.{IsMember}
use Rattle.crystal_spec.specs.Crystals.{Atom}
use Rattle.crystal_spec.specs.Matrices.{Triple, image}
use Rattle.crystal.specs.Views.{atom_of}
use Rattle.positions.specs.Positions.{modulo, triple_of}
use Rattle.site_orbits.specs.Images.{position_in}
use Rattle.site_orbits.proofs.Counting.{none_more}
use Rattle.site_orbits.proofs.images.first_among.Goals as goal

pub loop-j-init : goal.loop-j-init
loop-j-init c = λ k a l. absurd (omega (arith, l))

pub returns-then-is_among : goal.returns-then-is_among
returns-then-is_among c =
    let s = c.args.cell.now in
    let x = atom_of c.atom.result.now in
    let is : triple_of c.image.result ≡ position_in s.n c.args.r.now x = c.image.ensures ∙ (λ i. modulo ((c.new-basis.ensures.modulus ∙ c.n.ensures) i) (image (c.new-basis.ensures.matrix i) x.position)) in
    let here = subst (λ (p : Triple). IsMember p (map triple_of c.args.images.now)) is (c.is_among.ensures.0 c.if-is_among.true) in
    record {
      at_most = omega arith;
      found = λ a e. inr (subst (λ (b : Atom). IsMember (position_in s.n c.args.r.now b) (map triple_of c.args.images.now)) (same_Some x a (sym c.atom.ensures.value ∙ e)) here);
      none_before = c.loop-j.invariant;
    }

pub loop-j-preserved : goal.loop-j-preserved
loop-j-preserved c =
    let s = c.args.cell.now in
    let x = atom_of c.atom.result.now in
    let is : triple_of c.image.result ≡ position_in s.n c.args.r.now x = c.image.ensures ∙ (λ i. modulo ((c.new-basis.ensures.modulus ∙ c.n.ensures) i) (image (c.new-basis.ensures.matrix i) x.position)) in
    none_more s.n c.args.r.now (map triple_of c.args.images.now) s.atoms c.loop-j.j x c.atom.ensures.value
    (λ m. let yes : c.is_among.result ≡ true = c.is_among.ensures.1 (subst (λ (p : Triple). IsMember p (map triple_of c.args.images.now)) (sym is) m) in cc (sym c.if-is_among.false ∙ yes))
    c.loop-j.invariant

pub returns : goal.returns
returns c = record { at_most = omega arith; found = λ a e. inl refl; none_before = λ k a l. c.loop-j.invariant k a (omega (arith, l)) }
