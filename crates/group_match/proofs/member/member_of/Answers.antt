use Rattle.std.proofs.Common.{◌≡◌, take, map, length, sym, subst, ap, ◌∙◌, arith}
use Rattle.lists.specs.Increasing.{IsMember}
use Rattle.lists.proofs.Members.{mapped_member, member_read, each_pushed}
use Rattle.lists.proofs.Walks.{take_read, all_taken}
use Rattle.op_group.specs.Views.{operation_of}
use Rattle.std.proofs.lemmas.List.{map_push}
use Rattle.group_match.proofs.member.member_of.Goals as goal

pub returns-then-has_class-clause-member : goal.returns-then-has_class-clause-member
returns-then-has_class-clause-member c =
    mapped_member operation_of c.op-item.result c.args.ops.now (member_read c.args.ops.now c.loop-op.op-index c.op-item.result c.loop-op-test.true c.op-item.is)

pub loop-op-preserved : goal.loop-op-preserved
loop-op-preserved c o m =
    let ops = c.args.ops.now in
    let i = c.loop-op.op-index in
    let x = c.op-item.result in
    each_pushed (λ p. p.matrix ≡ c.args.v.now → p.sign ≡ c.args.sign → ⊥) (map operation_of (take i ops)) (operation_of x) c.loop-op.invariant (λ em es. (let yes = c.has_class.ensures.1 (em, es) in cc (yes, c.if-has_class.false))) o (subst (IsMember o) (ap (map operation_of) (take_read ops i x c.loop-op-test.true c.op-item.is) ∙ map_push operation_of (take i ops) x) m)

pub returns-clause-absent : goal.returns-clause-absent
returns-clause-absent c o m =
    let ops = c.args.ops.now in
    let ended : c.loop-op.op-index ≡ length ops = omega arith in
    c.loop-op.invariant o (subst (λ xs. IsMember o (map operation_of xs)) (sym (all_taken ops c.loop-op.op-index ended)) m)
