use Rattle.std.proofs.Common.{◌≡◌, ◌^◌, ◌*◌, ◌+◌, pos, sym, subst, ap, ap₂, ◌∙◌, lit≤}
use Rattle.ring.specs.Size.{AtMost}
use Rattle.matrix3.specs.Matrices.{EachCoordinate}
use Rattle.matrix3.proofs.FitsBySize.{image_fits, image_size, coordinates_grown, multiple_size, difference_size}
use Rattle.crystal_spec.specs.Matrices.{image, multiple, difference}
use Rattle.positions.specs.Positions.{triple_of}
use Rattle.group_match.proofs.Sized.{cell_size, natural_size}
use Rattle.group_match.proofs.origin.gap.Goals as goal

pub apply-image-requires-clause-fits : goal.apply-image-requires-clause-fits
apply-image-requires-clause-fits c =
    image_fits c.args.turn.now c.column.result c.requires.turn (subst (EachCoordinate (AtMost 12)) (sym c.column.ensures.value) (cell_size 12 _ c.requires.pair.source)) tt

pub multiple-requires-2 : goal.multiple-requires-2
multiple-requires-2 c = record {
  fits =
      let w = cell_size 12 _ c.requires.pair.source in
      let m = 5184 * 12 + 5184 * 12 + 5184 * 12 in
      let is : c.apply-image.result ≡ image c.args.turn.now (triple_of c.args.pair.now.source.shift) = c.apply-image.ensures.value ∙ ap (image c.args.turn.now) c.column.ensures.value in
      coordinates_grown (lit≤ tt) (subst (EachCoordinate (AtMost (10 ^ 6 * m))) (sym (ap₂ multiple c.from-2.ensures is)) (multiple_size (natural_size (10 ^ 6) c.args.n c.requires.n) (image_size c.args.turn.now _ c.requires.turn w)));
}

pub minus-requires : goal.minus-requires
minus-requires c = record {
  fits =
      let w = cell_size 12 _ c.requires.pair.source in
      let v = coordinates_grown c.requires.n (cell_size c.args.n _ c.requires.pair.member) in
      let m = 5184 * 12 + 5184 * 12 + 5184 * 12 in
      let is : c.apply-image.result ≡ image c.args.turn.now (triple_of c.args.pair.now.source.shift) = c.apply-image.ensures.value ∙ ap (image c.args.turn.now) c.column.ensures.value in
      let one : c.multiple.result ≡ multiple (pos 12) (triple_of c.args.pair.now.member.shift) = c.multiple.ensures ∙ ap₂ multiple c.from.ensures c.column-shift.ensures.value in
      let two : c.multiple-2.result ≡ multiple (pos c.args.n) (image c.args.turn.now (triple_of c.args.pair.now.source.shift)) = c.multiple-2.ensures ∙ ap₂ multiple c.from-2.ensures is in
      coordinates_grown (lit≤ tt) (subst (EachCoordinate (AtMost (12 * 10 ^ 6 + 10 ^ 6 * m))) (sym (ap₂ difference one two)) (difference_size (multiple_size (natural_size 12 12 (lit≤ tt)) v) (multiple_size (natural_size (10 ^ 6) c.args.n c.requires.n) (image_size c.args.turn.now _ c.requires.turn w))));
}

pub returns-clause-size : goal.returns-clause-size
returns-clause-size c =
    let w = cell_size 12 _ c.requires.pair.source in
    let v = coordinates_grown c.requires.n (cell_size c.args.n _ c.requires.pair.member) in
    let m = 5184 * 12 + 5184 * 12 + 5184 * 12 in
    let is : c.apply-image.result ≡ image c.args.turn.now (triple_of c.args.pair.now.source.shift) = c.apply-image.ensures.value ∙ ap (image c.args.turn.now) c.column.ensures.value in
    let one : c.multiple.result ≡ multiple (pos 12) (triple_of c.args.pair.now.member.shift) = c.multiple.ensures ∙ ap₂ multiple c.from.ensures c.column-shift.ensures.value in
    let two : c.multiple-2.result ≡ multiple (pos c.args.n) (image c.args.turn.now (triple_of c.args.pair.now.source.shift)) = c.multiple-2.ensures ∙ ap₂ multiple c.from-2.ensures is in
    coordinates_grown (lit≤ tt) (subst (EachCoordinate (AtMost (12 * 10 ^ 6 + 10 ^ 6 * m))) (sym (c.minus.ensures ∙ ap₂ difference one two)) (difference_size (multiple_size (natural_size 12 12 (lit≤ tt)) v) (multiple_size (natural_size (10 ^ 6) c.args.n c.requires.n) (image_size c.args.turn.now _ c.requires.turn w))))
