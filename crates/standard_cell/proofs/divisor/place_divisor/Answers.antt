use Rattle.std.proofs.Common.{◌≡◌, ℕ, List, take, length, pos, sym, ap, subst, ◌∙◌, arith}
use Rattle.std.proofs.Math.Seq.{take-length}
use Rattle.lists.proofs.Walks.{take_at}
use Rattle.crystal_spec.specs.Matrices.{Triple, image, adjugate, multiple, difference}
use Rattle.crystal_spec.specs.Crystals.{Atom}
use Rattle.crystal_spec.specs.Operations.{IsWithinCell}
use Rattle.crystal.specs.Views.{atom_of}
use Rattle.positions.specs.Positions.{triple_of}
use Rattle.standard_cell.specs.Commons.{IsCommonWith}
use Rattle.standard_cell.specs.PlaceDivisors.{place_of, IsPlaceDivisor}
use Rattle.standard_cell.specs.Frames.{origin_of, goal_of}
use Rattle.standard_cell.proofs.PlaceDivisorLemmas.{more_places}
use Rattle.standard_cell.proofs.divisor.place_divisor.Goals as goal

pub loop-i-init : goal.loop-i-init
loop-i-init c = c.translation_divisor-divisor.ensures c.args.cell.now c.requires.n

pub goal-requires-clause-place : goal.goal-requires-clause-place
goal-requires-clause-place c = subst (λ (n : ℕ). IsWithinCell n (triple_of c.atom.result.now.place)) (sym c.requires.n) c.atom.ensures.form.within

pub source-place-requires-clause-goal : goal.source-place-requires-clause-goal
source-place-requires-clause-goal c = c.goal.ensures.size

pub common_with-divisor-requires : goal.common_with-divisor-requires
common_with-divisor-requires c = c.loop-i.invariant.positive

pub loop-i-preserved : goal.loop-i-preserved
loop-i-preserved c =
    let f = c.args.frame.now in
    let s = c.args.cell.now in
    let a = atom_of c.atom.result.now in
    let i = c.loop-i.i in
    let here : c.source-place.result ≡ image (adjugate f.turn) (goal_of f a.position) = c.source-place.ensures ∙ ap (image (adjugate f.turn)) c.goal.ensures.value in
    let is : c.source-place.result ≡ place_of s f.turn (origin_of f) a.position = here ∙ ap (λ (n : ℕ). image (adjugate f.turn) (difference (multiple f.parts a.position) (multiple (pos n) f.shift))) c.requires.n in
    subst (λ (l : List Atom). IsPlaceDivisor s f.turn (origin_of f) l c.common_with-divisor.result) (take_at s.atoms i a c.atom.ensures.value)
    (more_places s f.turn (origin_of f) (take i s.atoms) a c.loop-i.divisor c.common_with-divisor.result c.loop-i.invariant (subst (λ (v : Triple). IsCommonWith c.loop-i.divisor v c.common_with-divisor.result) is c.common_with-divisor.ensures))

pub returns : goal.returns
returns c =
    let s = c.args.cell.now in
    let ended : c.loop-i.i ≡ length s.atoms = omega (arith, c.count-i-end.ensures.value) in
    subst (λ (l : List Atom). IsPlaceDivisor s c.args.frame.now.turn (origin_of c.args.frame.now) l c.loop-i.divisor) (ap (λ (k : ℕ). take k s.atoms) ended ∙ take-length s.atoms) c.loop-i.invariant
