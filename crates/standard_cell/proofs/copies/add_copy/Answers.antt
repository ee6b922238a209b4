use Rattle.std.proofs.Common.{◌≡◌, ◌^◌, ◌*◌, ℤ, pos, true, ◌*ℤ◌, ◌≤ℤ◌, sym, ap, ap₂, subst, ◌∙◌, lit≤}
use Rattle.ring.specs.Size.{AtMost}
use Rattle.matrix3.specs.Matrices.{EachCoordinate}
use Rattle.crystal_spec.specs.Matrices.{Triple, multiple, sum_of}
use Rattle.crystal.specs.Views.{atom_of}
use Rattle.positions.specs.Positions.{triple_of}
use Rattle.match_spec.specs.Points.{point, IsInCell, IsWhole}
use Rattle.matrix3.proofs.FitsBySize.{coordinates_grown}
use Rattle.standard_cell.specs.Frames.{step_of, full_of, point_at, Meets, IsCopy}
use Rattle.standard_cell.proofs.FrameSizes.{cells_small, point_small}
use Rattle.standard_cell.proofs.CopyLemmas.{point_in_cell, copy_once}
use Rattle.standard_cell.proofs.SweepLemmas.{one_added, missed_added}
use Rattle.standard_cell.proofs.copies.add_copy.Goals as goal

pub multiple-requires : goal.multiple-requires
multiple-requires c = record {
  fits =
      let f = c.args.frame.now in
      subst (EachCoordinate (AtMost (10 ^ 36))) (sym (ap₂ multiple c.step.ensures.value c.column.ensures.value)) (coordinates_grown (lit≤ tt) (cells_small f c.requires.frame (triple_of c.args.t) c.requires.t));
}

pub plus-place-requires : goal.plus-place-requires
plus-place-requires c = record {
  fits =
      let f = c.args.frame.now in
      let s = c.args.copies.now in
      let is : c.multiple.result ≡ multiple (step_of f) (triple_of c.args.t) = c.multiple.ensures ∙ ap₂ multiple c.step.ensures.value c.column.ensures.value in
      subst (λ (v : Triple). EachCoordinate (AtMost (10 ^ 36)) (sum_of s.start v)) (sym is) (coordinates_grown (lit≤ tt) (point_small f c.requires.frame s.start (triple_of c.args.t) c.requires.copies.start c.requires.t));
}

pub is_met-requires-clause-goal : goal.is_met-requires-clause-goal
is_met-requires-clause-goal c = c.requires.copies.goal

pub is_met-requires-clause-place : goal.is_met-requires-clause-place
is_met-requires-clause-place c =
    let f = c.args.frame.now in
    let s = c.args.copies.now in
    let is : c.plus-place.result ≡ point_at f s.start (triple_of c.args.t) = c.plus-place.ensures ∙ ap (sum_of s.start) (c.multiple.ensures ∙ ap₂ multiple c.step.ensures.value c.column.ensures.value) in
    subst (EachCoordinate (AtMost (2 * 10 ^ 21))) (sym is) (point_small f c.requires.frame s.start (triple_of c.args.t) c.requires.copies.start c.requires.t)

pub atom_at-requires : goal.atom_at-requires
atom_at-requires c =
    let f = c.args.frame.now in
    let s = c.args.copies.now in
    let is : c.plus-place.result ≡ point_at f s.start (triple_of c.args.t) = c.plus-place.ensures ∙ ap (sum_of s.start) (c.multiple.ensures ∙ ap₂ multiple c.step.ensures.value c.column.ensures.value) in
    let met : Meets f s.goal (point_at f s.start (triple_of c.args.t)) = subst (λ (v : Triple). Meets f s.goal v) is (c.is_met.ensures.0 c.if-is_met.true) in
    record {
      positive = c.requires.copies.positive;
      divides = subst (IsWhole s.divisor) (sym is) (c.requires.copies.divides (triple_of c.args.t) met);
      inside = subst (λ (d : ℤ). IsInCell (point c.plus-place.result d)) (sym c.full.ensures.value) (subst (λ (v : Triple). IsInCell (point v (full_of f))) (sym is) (point_in_cell f s.start (triple_of c.args.t) c.requires.copies.start c.requires.t));
      few = subst (λ (z : ℤ). z ≤ℤ (s.divisor *ℤ pos (10 ^ 6))) (sym c.full.ensures.value) c.requires.copies.few;
    }

pub returns-in_ok-push : goal.returns-in_ok-push
returns-in_ok-push c =
    let f = c.args.frame.now in
    let s = c.args.copies.now in
    let t = triple_of c.args.t in
    let is : c.plus-place.result ≡ point_at f s.start t = c.plus-place.ensures ∙ ap (sum_of s.start) (c.multiple.ensures ∙ ap₂ multiple c.step.ensures.value c.column.ensures.value) in
    let met : Meets f s.goal (point_at f s.start t) = subst (λ (v : Triple). Meets f s.goal v) is (c.is_met.ensures.0 c.if-is_met.true) in
    let copy : IsCopy f s t (atom_of c.atom_at.result) = record { meets = met; position = c.atom_at.ensures.position ∙ is; species = c.atom_at.ensures.species; moment = c.atom_at.ensures.moment } in
    one_added (IsCopy f s) t c.args.made.now.items c.push.new.self.items c.atom_at.result c.in_ok-push.ensures.items copy (λ d h. copy_once f s t (atom_of c.atom_at.result) d c.requires.copies.positive copy h)

pub returns-else-is_met : goal.returns-else-is_met
returns-else-is_met c =
    let f = c.args.frame.now in
    let s = c.args.copies.now in
    let t = triple_of c.args.t in
    let is : c.plus-place.result ≡ point_at f s.start t = c.plus-place.ensures ∙ ap (sum_of s.start) (c.multiple.ensures ∙ ap₂ multiple c.step.ensures.value c.column.ensures.value) in
    missed_added (IsCopy f s) t c.args.made.now.items (λ d h. let yes : c.is_met.result ≡ true = c.is_met.ensures.1 (subst (λ (v : Triple). Meets f s.goal v) (sym is) h.meets) in cc (sym c.if-is_met.false ∙ yes))
