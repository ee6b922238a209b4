use Rattle.std.proofs.Common.{◌≡◌, ◌^◌, ◌*◌, pos, subst, sym, ap, ap₂, ◌∙◌, lit≤}
use Rattle.ring.specs.Size.{AtMost}
use Rattle.matrix3.specs.Matrices.{EachCoordinate}
use Rattle.crystal_spec.specs.Matrices.{multiple, difference}
use Rattle.positions.specs.Positions.{triple_of}
use Rattle.matrix3.proofs.FitsBySize.{coordinates_grown}
use Rattle.standard_cell.specs.Frames.{goal_of}
use Rattle.standard_cell.proofs.FrameSizes.{place_part, shift_part, goal_small}
use Rattle.standard_cell.proofs.frame.goal.Goals as goal

pub multiple-requires : goal.multiple-requires
multiple-requires c = record {
  fits =
      let f = c.args.frame.now in
      subst (λ v. EachCoordinate (AtMost (10 ^ 36)) (multiple f.parts v)) (sym c.column.ensures.value) (coordinates_grown (lit≤ tt) (place_part f c.requires.frame (triple_of c.args.place) c.requires.place));
}

pub multiple-requires-2 : goal.multiple-requires-2
multiple-requires-2 c = record {
  fits =
      let f = c.args.frame.now in
      subst (λ k. EachCoordinate (AtMost (10 ^ 36)) (multiple k f.shift)) (sym c.from.ensures) (coordinates_grown (lit≤ tt) (shift_part f c.requires.frame));
}

pub minus-requires : goal.minus-requires
minus-requires c = record {
  fits =
      let f = c.args.frame.now in
      let one : c.multiple.result ≡ multiple f.parts (triple_of c.args.place) = c.multiple.ensures ∙ ap (multiple f.parts) c.column.ensures.value in
      let two : c.multiple-2.result ≡ multiple (pos f.n) f.shift = c.multiple-2.ensures ∙ ap (λ k. multiple k f.shift) c.from.ensures in
      subst (EachCoordinate (AtMost (10 ^ 36))) (sym (ap₂ difference one two)) (coordinates_grown (lit≤ tt) (goal_small f c.requires.frame (triple_of c.args.place) c.requires.place));
}

pub returns : goal.returns
returns c =
    let f = c.args.frame.now in
    let one : c.multiple.result ≡ multiple f.parts (triple_of c.args.place) = c.multiple.ensures ∙ ap (multiple f.parts) c.column.ensures.value in
    let two : c.multiple-2.result ≡ multiple (pos f.n) f.shift = c.multiple-2.ensures ∙ ap (λ k. multiple k f.shift) c.from.ensures in
    let is : c.minus.result ≡ goal_of f (triple_of c.args.place) = c.minus.ensures ∙ ap₂ difference one two in
    record { value = is; size = subst (EachCoordinate (AtMost (2 * 10 ^ 18))) (sym is) (goal_small f c.requires.frame (triple_of c.args.place) c.requires.place) }
