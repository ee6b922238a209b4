use Rattle.std.proofs.Common.{ℕ, List, [], ◌∷◌, ◌++◌, take, subst, ap, ◌∙◌}
use Rattle.lists.specs.Increasing.{IsMember}
use Rattle.lists.proofs.Distinct.{not_before}
use Rattle.lists.proofs.Walks.{take_at}
use Rattle.crystal_spec.specs.Crystals.{Structure}
use Rattle.crystal.proofs.cell.Cell.add_names_of.Goals as goal

pub add_name-requires-clause-new : goal.add_name-requires-clause-new
add_name-requires-clause-new c m =
    let names = c.args.cell.now.names in
    let there = subst (λ (l : List (List ℕ)). IsMember c.copied.result l) (ap (λ (s : Structure). s.names) c.loop-species.invariant) m in
    not_before names c.loop-species.species c.name.result.now c.invariant.ensures.form.names_differ c.name.ensures (subst (λ (x : List ℕ). IsMember x (take c.loop-species.species names)) c.copied.ensures there)

pub loop-species-preserved : goal.loop-species-preserved
loop-species-preserved c =
    let names = c.args.cell.now.names in
    let i = c.loop-species.species in
    c.in_ok-add_name.ensures.value ∙ ap (λ (s : Structure). record s { names = s.names ++ c.copied.result ∷ [] }) c.loop-species.invariant
    ∙ ap (λ (l : List (List ℕ)). record c.args.self.now { names = l }) (ap (λ (x : List ℕ). take i names ++ x ∷ []) c.copied.ensures ∙ take_at names i c.name.result.now c.name.ensures)
