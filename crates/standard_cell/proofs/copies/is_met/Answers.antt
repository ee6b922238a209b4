use Rattle.std.proofs.Common.{◌≡◌, ◌^◌, ℤ, pos, sym, ap, ap₂, subst, ◌∙◌, lit≤}
use Rattle.std.specs.Prelude.{◌↔◌, IsTrue}
use Rattle.ring.specs.Size.{AtMost}
use Rattle.matrix3.specs.Matrices.{EachCoordinate}
use Rattle.matrix3.proofs.FitsBySize.{image_fits, coordinates_grown}
use Rattle.crystal_spec.specs.Matrices.{Triple, image, multiple, difference}
use Rattle.match_spec.specs.Points.{IsWhole}
use Rattle.standard_cell.proofs.FrameSizes.{index_part, rest_small}
use Rattle.standard_cell.proofs.copies.is_met.Goals as goal

pub apply-requires-clause-fits : goal.apply-requires-clause-fits
apply-requires-clause-fits c = image_fits c.args.frame.now.turn c.args.place.now c.requires.frame.turn c.requires.place tt

pub multiple-requires : goal.multiple-requires
multiple-requires c = record {
  fits =
      subst (λ k. EachCoordinate (AtMost (10 ^ 36)) (multiple k c.args.goal.now)) (sym c.from.ensures) (coordinates_grown (lit≤ tt) (index_part c.args.frame.now c.requires.frame c.args.goal.now c.requires.goal));
}

pub minus-rest-requires : goal.minus-rest-requires
minus-rest-requires c = record {
  fits =
      let f = c.args.frame.now in
      let two : c.multiple.result ≡ multiple (pos f.index) c.args.goal.now = c.multiple.ensures ∙ ap (λ k. multiple k c.args.goal.now) c.from.ensures in
      subst (EachCoordinate (AtMost (10 ^ 36))) (sym (ap₂ difference c.apply.ensures.value two)) (rest_small f c.requires.frame c.args.goal.now c.args.place.now c.requires.goal c.requires.place);
}

pub are_multiples-requires : goal.are_multiples-requires
are_multiples-requires c = c.full.ensures.positive

pub returns : goal.returns
returns c =
    let f = c.args.frame.now in
    let two : c.multiple.result ≡ multiple (pos f.index) c.args.goal.now = c.multiple.ensures ∙ ap (λ k. multiple k c.args.goal.now) c.from.ensures in
    let is : c.minus-rest.result ≡ difference (image f.turn c.args.place.now) (multiple (pos f.index) c.args.goal.now) = c.minus-rest.ensures ∙ ap₂ difference c.apply.ensures.value two in
    subst (λ (d : ℤ). IsTrue c.are_multiples.result ↔ IsWhole d (difference (image f.turn c.args.place.now) (multiple (pos f.index) c.args.goal.now))) c.full.ensures.value
    (subst (λ (v : Triple). IsTrue c.are_multiples.result ↔ IsWhole c.full.result v) is c.are_multiples.ensures)
