use Rattle.std.proofs.Common.{◌≡◌, ◌+◌, ◌-◌, ◌<◌, length, take, map, refl, subst, ap, arith}
use Rattle.lists.specs.Increasing.{IsMember}
use Rattle.lists.proofs.Members.{mapped_member, member_read}
use Rattle.op_group.specs.Views.{operation_of}
use Rattle.match_spec.specs.Searching.{class_of}
use Rattle.match_spec.proofs.Counts.{same_class}
use Rattle.group_match.proofs.Loops.{not_last}
use Rattle.group_match.proofs.representative.has_alike.Goals as goal

pub returns-then-has_class : goal.returns-then-has_class
returns-then-has_class c =
    let ops = c.args.ops.now in
    let x = c.index-ops-ops.result in
    let n = length ops - 1 - c.loop-i.i in
    let below : n < length ops = omega (arith, c.loop-i-test.true) in
    let same = c.has_class.ensures.0 c.if-has_class.true in
    ((λ t. subst (λ k. IsMember k (map class_of (map operation_of ops))) (same_class (class_of (operation_of x)) (class_of (operation_of c.args.op.now)) same.0 same.1) (mapped_member class_of (operation_of x) (map operation_of ops) (mapped_member operation_of x ops (member_read ops n x below c.index-ops-ops.is)))), (λ m. refl))

pub loop-i-preserved : goal.loop-i-preserved
loop-i-preserved c h =
    let ops = c.args.ops.now in
    let i = c.loop-i.i in
    let k = class_of (operation_of c.args.op.now) in
    let x = c.index-ops-ops.result in
    let n = length ops - 1 - i in
    let below : n < length ops = omega (arith, c.loop-i-test.true) in
    let here : length ops - i ≡ n + 1 = omega (arith, c.loop-i-test.true) in
    let next : n ≡ length ops - (i + 1) = omega (arith, c.loop-i-test.true) in
    subst (λ m. IsMember k (map class_of (map operation_of (take m ops)))) next
    (not_last ops n x k below c.index-ops-ops.is (λ e. (let yes = c.has_class.ensures.1 (ap (λ w. w.matrix) e, ap (λ w. w.sign) e) in cc (yes, c.if-has_class.false))) (subst (λ m. IsMember k (map class_of (map operation_of (take m ops)))) here (c.loop-i.invariant h)))
