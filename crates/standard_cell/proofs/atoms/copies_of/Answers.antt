use Rattle.std.proofs.Common.{◌≡◌, ℕ, sym, ap, subst, ◌∙◌, lit≤}
use Rattle.ring.specs.Size.{AtMost}
use Rattle.lists.proofs.Members.{member_at}
use Rattle.matrix3.specs.Matrices.{EachEntry}
use Rattle.matrix3.proofs.FitsBySize.{image_fits}
use Rattle.crystal_spec.specs.Matrices.{Triple, Matrix, image, adjugate}
use Rattle.crystal_spec.specs.Moments.{turn_matrix}
use Rattle.crystal_spec.specs.Crystals.{Atom}
use Rattle.crystal_spec.specs.Operations.{IsWithinCell}
use Rattle.crystal.specs.Views.{atom_of}
use Rattle.positions.specs.Positions.{triple_of}
use Rattle.standard_cell.specs.Frames.{goal_of, point_at, Meets, IsStart}
use Rattle.standard_cell.proofs.CopyLemmas.{met_whole}
use Rattle.standard_cell.proofs.FrameSizes.{back_small}
use Rattle.standard_cell.proofs.StartLemmas.{start_of, coordinates_each, turn_each}
use Rattle.standard_cell.proofs.UnitLemmas.{units_few, units_parts, units_natural}
use Rattle.standard_cell.proofs.atoms.copies_of.Goals as goal

pub goal-goal-requires-clause-place : goal.goal-goal-requires-clause-place
goal-goal-requires-clause-place c = subst (λ (n : ℕ). IsWithinCell n (triple_of c.atom-atom.result.now.place)) (sym c.requires.n) c.atom-atom.ensures.form.within

pub source-requires-clause-goal : goal.source-requires-clause-goal
source-requires-clause-goal c = c.goal-goal.ensures.size

pub remainders-requires : goal.remainders-requires
remainders-requires c = record {
  positive = c.step.ensures.positive;
}

pub apply-requires-clause-fits : goal.apply-requires-clause-fits
apply-requires-clause-fits c =
    let f = c.args.frame.now in
    image_fits c.turn_matrix.result c.atom-atom.result.now.moment (subst (EachEntry (AtMost 60000000)) (sym c.turn_matrix.ensures) (turn_each c.kind.result 60000000 f.back (lit≤ tt) (back_small f c.requires.frame))) (coordinates_each c.atom-atom.ensures.form.moment) tt

pub returns-clause-copies : goal.returns-clause-copies
returns-clause-copies c =
    let f = c.args.frame.now in
    let s = c.args.cell.now in
    let u = c.args.units.now in
    let a = atom_of c.atom-atom.result.now in
    let source = c.source.ensures ∙ ap (image (adjugate f.turn)) c.goal-goal.ensures.value in
    let start = start_of f c.requires.frame a.position c.remainders.result c.source.result c.step.result c.step.ensures.value source c.remainders.ensures.x c.remainders.ensures.y c.remainders.ensures.z in
    record {
      start = start.in_cell;
      goal = c.goal-goal.ensures.size;
      positive = c.requires.units.divisor_is.positive;
      divides = λ t m. met_whole s f c.requires.frame c.requires.n u.divisor s.atoms c.requires.units.divisor_is a (member_at s.atoms c.args.i a c.atom-atom.ensures.value) (point_at f c.remainders.result t) (subst (λ (w : Triple). Meets f w (point_at f c.remainders.result t)) c.goal-goal.ensures.value m);
      few = units_few s f c.requires.frame c.requires.n u c.requires.units c.requires.few;
    }

pub returns-clause-of_atom : goal.returns-clause-of_atom
returns-clause-of_atom c b e =
    let f = c.args.frame.now in
    let s = c.args.cell.now in
    let u = c.args.units.now in
    let a = atom_of c.atom-atom.result.now in
    let source = c.source.ensures ∙ ap (image (adjugate f.turn)) c.goal-goal.ensures.value in
    let start : IsStart f a.position c.remainders.result = start_of f c.requires.frame a.position c.remainders.result c.source.result c.step.result c.step.ensures.value source c.remainders.ensures.x c.remainders.ensures.y c.remainders.ensures.z in
    let same : a ≡ b = cc (c.atom-atom.ensures.value, e) in
    let moment : c.apply.result ≡ image (turn_matrix s.kind (adjugate f.turn)) a.moment = c.apply.ensures.value ∙ ap (λ (m : Matrix). image m a.moment) (c.turn_matrix.ensures ∙ (λ j. turn_matrix (c.kind.ensures j) (c.requires.frame.back j))) in
    record {
      same_n = c.requires.n;
      above = units_natural s f c.requires.frame c.requires.n u c.requires.units;
      parts = units_parts s f c.requires.frame c.requires.n u c.requires.units;
      goal = c.goal-goal.ensures.value ∙ ap (λ (x : Atom). goal_of f x.position) same;
      is_start = subst (λ (x : Atom). IsStart f x.position c.remainders.result) same start;
      species = ap (λ (x : Atom). x.species) same;
      moment = moment ∙ ap (λ (x : Atom). image (turn_matrix s.kind (adjugate f.turn)) x.moment) same;
    }
