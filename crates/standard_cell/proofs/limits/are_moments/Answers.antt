use Rattle.std.proofs.Common.{◌≡◌, ◌*◌, ◌^◌, ℕ, List, true, take, length, refl, sym, ap, subst, ◌∙◌, arith}
use Rattle.std.proofs.Math.Seq.{take-length}
use Rattle.lists.specs.Increasing.{IsMember}
use Rattle.lists.proofs.Members.{member_at}
use Rattle.matrix3.proofs.FitsBySize.{image_fits}
use Rattle.crystal_spec.specs.Matrices.{image}
use Rattle.crystal_spec.specs.Crystals.{Atom}
use Rattle.crystal.specs.Views.{atom_of}
use Rattle.matrix3.specs.Bounds.{CoordinatesAtMost}
use Rattle.standard_cell.proofs.StartLemmas.{coordinates_each}
use Rattle.standard_cell.proofs.LimitLemmas.{each_more}
use Rattle.standard_cell.proofs.limits.are_moments.Goals as goal

pub apply-requires-clause-fits : goal.apply-requires-clause-fits
apply-requires-clause-fits c = image_fits c.args.turn.now c.atom.result.now.moment c.requires (coordinates_each c.atom.ensures.form.moment) tt

pub loop-i-init : goal.loop-i-init
loop-i-init c a m = absurd m

pub returns-then-not-is_moment : goal.returns-then-not-is_moment
returns-then-not-is_moment c =
    let a = atom_of c.atom.result.now in
    ((λ t. absurd (cc t)), (λ all. absurd (let yes : c.is_moment.result ≡ true = c.is_moment.ensures.1 (subst (CoordinatesAtMost (2 * 10 ^ 27)) (sym c.apply.ensures.value) (all a (member_at c.args.cell.now.atoms c.loop-i.i a c.atom.ensures.value))) in cc (yes, c.if-not-is_moment.true))))

pub loop-i-preserved : goal.loop-i-preserved
loop-i-preserved c =
    let a = atom_of c.atom.result.now in
    each_more (λ (b : Atom). CoordinatesAtMost (2 * 10 ^ 27) (image c.args.turn.now b.moment)) c.args.cell.now.atoms c.loop-i.i a c.atom.ensures.value c.loop-i.invariant
    (subst (CoordinatesAtMost (2 * 10 ^ 27)) c.apply.ensures.value (c.is_moment.ensures.0 c.if-not-is_moment.false))

pub returns : goal.returns
returns c =
    let s = c.args.cell.now in
    let ended : c.loop-i.i ≡ length s.atoms = omega (arith, c.count-i-end.ensures.value) in
    let all = subst (λ (l : List Atom). (a : Atom) → IsMember a l → CoordinatesAtMost (2 * 10 ^ 27) (image c.args.turn.now a.moment)) (ap (λ (k : ℕ). take k s.atoms) ended ∙ take-length s.atoms) c.loop-i.invariant in
    ((λ t. all), (λ h. refl))
