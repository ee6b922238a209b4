use Rattle.std.proofs.Common.{◌≡◌, ◌⊎◌, ◌+◌, ◌≤◌, ℕ, List, drop, length, refl, ap, subst, ◌∙◌, arith}
use Rattle.std.proofs.lemmas.List.{drop_all}
use Rattle.lists.specs.Increasing.{IsMember}
use Rattle.lists.proofs.Walks.{drop_at}
use Rattle.crystal_spec.specs.Matrices.{Triple, sum_of}
use Rattle.crystal_spec.specs.Operations.{Operation}
use Rattle.positions.specs.Positions.{modulo, triple_of}
use Rattle.basis_spec.specs.Translations.{pure_translation}
use Rattle.op_group.specs.Views.{operation_of}
use Rattle.op_group.proofs.Searching.{holds_more, holds_for_all}
use Rattle.group_tests.proofs.operations.has_sums_with.Goals.{else-is_pure_translation-via-then-is_pure_translation+else-not-has_translation, else-is_pure_translation-via-else-is_pure_translation}
use Rattle.group_tests.proofs.operations.has_sums_with.Goals as goal

abbrev HasSum : ℕ → List Operation → Triple → Operation → Type 0
HasSum n os t o = o ≡ pure_translation o.translation → IsMember (pure_translation (modulo n (sum_of t o.translation))) os

pub loop-i-preserved : goal.loop-i-preserved
loop-i-preserved c o m =
    let n = c.args.list.now.n in
    let os = c.args.list.now.operations in
    let t = triple_of c.args.a in
    let x = operation_of c.at-b.result.now in
    holds_more (HasSum n os t) x o (drop (c.loop-i.i + 1) os)
    (elim c.else-is_pure_translation.branch [
      | else-is_pure_translation-via-then-is_pure_translation+else-not-has_translation w ↦ λ e.
          subst (λ (u : Triple). IsMember (pure_translation u) os) (w.sum_modulo.ensures ∙ ap (λ (k : ℕ). modulo k (sum_of t x.translation)) w.n.ensures)
          (w.has_translation.ensures w.if-not-has_translation.false)
      | else-is_pure_translation-via-else-is_pure_translation w ↦ λ e. absurd (let yes = c.is_pure_translation.ensures.1 e in cc (yes, w.if-is_pure_translation.false))
    ])
    (subst (λ (r : List Operation). IsMember o r ⊎ HasSum n os t o) (drop_at os c.loop-i.i x c.at-b.ensures) (c.loop-i.invariant o m))

pub returns : goal.returns
returns c found u m =
    let n = c.args.list.now.n in
    let os = c.args.list.now.operations in
    let t = triple_of c.args.a in
    let ended : length os ≤ c.loop-i.i = omega arith in
    holds_for_all (HasSum n os t) (pure_translation u) (subst (λ (r : List Operation). IsMember (pure_translation u) r ⊎ HasSum n os t (pure_translation u)) (drop_all c.loop-i.i os ended) (c.loop-i.invariant (pure_translation u) m)) refl
