use Rattle.std.proofs.Common.{◌≡◌, ap, subst, ◌∙◌, ℕ, length, map, take, arith}
use Rattle.std.proofs.Math.Seq.{take-length}
use Rattle.positions.specs.Positions.{triple_of}
use Rattle.lists.specs.Increasing.{IsMember}
use Rattle.lists.proofs.Members.{mapped_member, member_read}
use Rattle.lists.proofs.Walks.{map_twice, mapped_more}
use Rattle.op_group.specs.Views.{operation_of}
use Rattle.op_group.specs.declared.operation.Op.{Op}
use Rattle.site_orbits.specs.Images.{image_within}
use Rattle.site_orbits.proofs.images.images.Goals as goal

pub loop-op-init : goal.loop-op-init
loop-op-init c = ap (map triple_of) c.new-images.ensures.items

pub carried-requires-clause-small : goal.carried-requires-clause-small
carried-requires-clause-small c =
    let ops = c.ops-ops.result.now in
    let x = c.op-item.result in
    c.requires.small (operation_of x) (subst (IsMember (operation_of x)) c.ops-ops.ensures (mapped_member operation_of x ops (member_read ops c.loop-op.op-index x c.loop-op-test.true c.op-item.is)))

pub loop-op-preserved : goal.loop-op-preserved
loop-op-preserved c =
    mapped_more (λ (x : Op). image_within c.n-n.result (triple_of c.args.place) (operation_of x)) triple_of c.ops-ops.result.now c.loop-op.images.items c.push.new.self.items c.loop-op.op-index c.op-item.result c.carried.result
    c.loop-op-test.true c.op-item.is c.in_ok-push.ensures.items c.carried.ensures c.loop-op.invariant

pub returns : goal.returns
returns c =
    let ops = c.ops-ops.result.now in
    let p = triple_of c.args.place in
    let ended : c.loop-op.op-index ≡ length ops = omega arith in
    c.loop-op.invariant
    ∙ ap (λ (k : ℕ). map (λ (x : Op). image_within c.n-n.result p (operation_of x)) (take k ops)) ended
    ∙ ap (map (λ (x : Op). image_within c.n-n.result p (operation_of x))) (take-length ops)
    ∙ map_twice operation_of (image_within c.n-n.result p) ops
    ∙ ap (map (image_within c.n-n.result p)) c.ops-ops.ensures
    ∙ ap (λ (n : ℕ). map (image_within n p) c.args.list.now.operations) c.n-n.ensures
