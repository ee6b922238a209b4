use Rattle.std.proofs.Common.{◌+◌, take, map, sym, subst, ap, ◌∙◌}
use Rattle.lists.specs.Increasing.{IsMember}
use Rattle.op_group.specs.Views.{operation_of}
use Rattle.match_spec.specs.Searching.{class_of, AreRepresentatives}
use Rattle.group_match.proofs.Loops.{representative_same, representative_more}
use Rattle.group_match.proofs.representative.representatives.Goals.{then-not-has_alike+in_ok-push, else-not-has_alike}
use Rattle.group_match.proofs.representative.representatives.Goals as goal

pub loop-op-preserved : goal.loop-op-preserved
loop-op-preserved c =
    let ops = c.ops-ops.result.now in
    let i = c.loop-op.op-index in
    let x = c.op-item.result in
    let old = c.loop-op.reps.items in
    let k = class_of (operation_of x) in
    elim c.if-not-has_alike.branch [
      | then-not-has_alike+in_ok-push w ↦ subst (λ v. AreRepresentatives (map operation_of (take (i + 1) ops)) (map operation_of v)) (sym (ap (λ v. v.items) w.reps-is ∙ w.in_ok-push.ensures.items))
          (representative_more ops i x c.loop-op-test.true c.op-item.is old c.loop-op.invariant (λ m. (let yes = c.has_alike.ensures.1 (subst (λ rs. IsMember k (map class_of (map operation_of rs))) (sym c.deref.ensures.value) m) in cc (yes, w.if-not-has_alike.true))))
      | else-not-has_alike w ↦ subst (λ v. AreRepresentatives (map operation_of (take (i + 1) ops)) (map operation_of v.items)) (sym w.reps-is)
          (representative_same ops i x c.loop-op-test.true c.op-item.is old c.loop-op.invariant (subst (λ rs. IsMember k (map class_of (map operation_of rs))) c.deref.ensures.value (c.has_alike.ensures.0 w.if-not-has_alike.false)))
    ]
