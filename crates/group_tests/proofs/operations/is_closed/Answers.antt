use Rattle.std.proofs.Common.{◌≡◌, ◌⊎◌, ◌+◌, ◌≤◌, ℕ, List, drop, length, refl, subst, arith}
use Rattle.std.proofs.lemmas.List.{drop_all}
use Rattle.lists.specs.Increasing.{IsMember}
use Rattle.lists.proofs.Walks.{drop_at}
use Rattle.crystal_spec.specs.Matrices.{Triple, sum_of}
use Rattle.crystal_spec.specs.Operations.{Operation}
use Rattle.positions.specs.Positions.{modulo}
use Rattle.basis_spec.specs.Translations.{pure_translation}
use Rattle.op_group.specs.Views.{operation_of}
use Rattle.op_group.proofs.Searching.{holds_more, holds_for_all}
use Rattle.group_tests.proofs.operations.is_closed.Goals.{else-is_pure_translation-via-then-is_pure_translation+else-not-has_sums_with, else-is_pure_translation-via-else-is_pure_translation}
use Rattle.group_tests.proofs.operations.is_closed.Goals as goal

abbrev HasSums : ℕ → List Operation → Operation → Type 0
HasSums n os o = o ≡ pure_translation o.translation → (u : Triple) → IsMember (pure_translation u) os → IsMember (pure_translation (modulo n (sum_of o.translation u))) os

pub loop-i-preserved : goal.loop-i-preserved
loop-i-preserved c o m =
    let n = c.args.list.now.n in
    let os = c.args.list.now.operations in
    let x = operation_of c.at-a.result.now in
    holds_more (HasSums n os) x o (drop (c.loop-i.i + 1) os)
    (elim c.else-is_pure_translation.branch [
      | else-is_pure_translation-via-then-is_pure_translation+else-not-has_sums_with w ↦ λ e. w.has_sums_with.ensures w.if-not-has_sums_with.false
      | else-is_pure_translation-via-else-is_pure_translation w ↦ λ e. absurd (let yes = c.is_pure_translation.ensures.1 e in cc (yes, w.if-is_pure_translation.false))
    ])
    (subst (λ (r : List Operation). IsMember o r ⊎ HasSums n os o) (drop_at os c.loop-i.i x c.at-a.ensures) (c.loop-i.invariant o m))

pub returns : goal.returns
returns c found =
    let n = c.args.list.now.n in
    let os = c.args.list.now.operations in
    let ended : length os ≤ c.loop-i.i = omega arith in
    record {
      zero_in = c.has_translation.ensures found;
      sums = λ t u m k. holds_for_all (HasSums n os) (pure_translation t) (subst (λ (r : List Operation). IsMember (pure_translation t) r ⊎ HasSums n os (pure_translation t)) (drop_all c.loop-i.i os ended) (c.loop-i.invariant (pure_translation t) m)) refl u k;
    }
