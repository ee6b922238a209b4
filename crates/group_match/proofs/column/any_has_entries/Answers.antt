use Rattle.std.proofs.Common.{◌≡◌, take, map, length, sym, subst, ap, ◌∙◌, arith}
use Rattle.lists.specs.Increasing.{IsMember}
use Rattle.lists.proofs.Members.{each_pushed}
use Rattle.lists.proofs.Walks.{take_read, all_taken}
use Rattle.op_group.specs.Views.{operation_of}
use Rattle.std.proofs.lemmas.List.{map_push}
use Rattle.group_match.proofs.column.any_has_entries.Goals as goal

pub loop-op-preserved : goal.loop-op-preserved
loop-op-preserved c o m =
    let ops = c.args.ops.now in
    let i = c.loop-op.op-index in
    let x = c.op-item.result in
    each_pushed (λ p. p.matrix.a13 ≡ c.args.a13 → p.matrix.a23 ≡ c.args.a23 → p.sign ≡ c.args.sign → ⊥) (map operation_of (take i ops)) (operation_of x) c.loop-op.invariant (λ e f es. (let yes = c.has_entries.ensures.1 (e, (f, es)) in cc (yes, c.if-has_entries.false))) o (subst (IsMember o) (ap (map operation_of) (take_read ops i x c.loop-op-test.true c.op-item.is) ∙ map_push operation_of (take i ops) x) m)

pub returns : goal.returns
returns c o m =
    let ops = c.args.ops.now in
    let ended : c.loop-op.op-index ≡ length ops = omega arith in
    c.loop-op.invariant o (subst (λ xs. IsMember o (map operation_of xs)) (sym (all_taken ops c.loop-op.op-index ended)) m)
