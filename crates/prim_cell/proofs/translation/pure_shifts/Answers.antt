use Rattle.std.proofs.Common.{◌≡◌, ℕ, length, subst, ap, sym, ◌∙◌, arith}
use Rattle.std.specs.Prelude.{◌↔◌, slice_get, Some}
use Rattle.lists.specs.Increasing.{IsMember}
use Rattle.lists.proofs.Any.{alone_more}
use Rattle.crystal_spec.specs.Crystals.{Structure, KeepsMetric}
use Rattle.crystal_spec.specs.Operations.{Operation}
use Rattle.crystal.specs.Views.{atom_of}
use Rattle.crystal.specs.Cells.{IsCellWithinLimits}
use Rattle.prim_cell.specs.Candidates.{IsOnto, IsFromAtoms}
use Rattle.prim_cell.proofs.FoundTranslations.{found_all}
use Rattle.basis_spec.proofs.MatrixLaws.{metric_in-identity}
use Rattle.prim_cell.proofs.translation.pure_shifts.Goals as goal

-- the identity is an isometry
pub action-action-requires-clause-isometry : goal.action-action-requires-clause-isometry
action-action-requires-clause-isometry c = subst (KeepsMetric c.args.places.now.metric) (sym c.identity.ensures) (metric_in-identity c.args.places.now.metric)

pub loop-onto-preserved : goal.loop-onto-preserved
loop-onto-preserved c = record {
  n = c.in_ok-add_onto.ensures.n;
  members = λ o. alone_more (λ b. IsOnto c.args.places.now c.rarest-from.result b o) c.loop-onto.onto _ _ (c.loop-onto.invariant.members o) (c.in_ok-add_onto.ensures.members o);
}

pub returns-clause-exact : goal.returns-clause-exact
returns-clause-exact c =
    let s = c.args.places.now in
    let same = c.cell-cell.ensures in
    let from = atom_of c.atom-first.result.now in
    let all : c.count-onto-end.result ≡ length s.atoms = c.count-onto-end.ensures.value ∙ ap (λ (t : Structure). length t.atoms) same in
    let ended : c.loop-onto.onto ≡ length s.atoms = omega arith in
    found_all s c.rarest-from.result from c.loop-onto.found.operations (subst IsCellWithinLimits same c.count-onto-end.ensures.form)
    (subst (λ (t : Structure). slice_get t.atoms c.rarest-from.result ≡ Some from) same c.atom-first.ensures.value)
    c.invariant.ensures.ordered
    (subst (λ (k : ℕ). (o : Operation) → IsMember o c.loop-onto.found.operations ↔ IsFromAtoms s c.rarest-from.result k o) ended c.loop-onto.invariant.members)
