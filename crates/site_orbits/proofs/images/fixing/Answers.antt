use Rattle.std.proofs.Common.{◌≡◌, ℕ, length, sym, subst, arith}
use Rattle.std.specs.Prelude.{◌↔◌}
use Rattle.lists.specs.Increasing.{IsMember}
use Rattle.lists.proofs.Any.{any_more, any_all, only_left}
use Rattle.lists.proofs.Members.{mapped_member, member_read}
use Rattle.crystal_spec.specs.Operations.{IsWithinCell}
use Rattle.positions.specs.Positions.{triple_of}
use Rattle.op_group.specs.Views.{operation_of}
use Rattle.op_group.specs.declared.operation.Op.{Op}
use Rattle.site_orbits.specs.Images.{image_within}
use Rattle.site_orbits.proofs.Fixing.{kept_of_list, either_way}
use Rattle.site_orbits.proofs.images.fixing.Goals as goal

pub add_fixing-requires-clause-small : goal.add_fixing-requires-clause-small
add_fixing-requires-clause-small c =
    let ops = c.ops-ops.result.now in
    let x = c.op-item.result in
    c.requires.small (operation_of x) (subst (IsMember (operation_of x)) c.ops-ops.ensures (mapped_member operation_of x ops (member_read ops c.loop-op.op-index x c.loop-op-test.true c.op-item.is)))

pub loop-op-preserved : goal.loop-op-preserved
loop-op-preserved c o =
    let p = triple_of c.args.place in
    any_more c.ops-ops.result.now c.loop-op.op-index c.op-item.result (λ (x : Op). (o ≡ operation_of x) × (image_within c.n-n.result p o ≡ p)) c.loop-op-test.true c.op-item.is (c.in_ok-add_fixing.ensures o) (c.loop-op.invariant o)

pub sorted-requires : goal.sorted-requires
sorted-requires c =
    let p = triple_of c.args.place in
    let os = c.args.list.now.operations in
    let ops = c.ops-ops.result.now in
    let ended : c.loop-op.op-index ≡ length ops = omega arith in
    record {
      below_n = λ o m.
          let any = (only_left (any_all ops c.loop-op.op-index (λ (x : Op). (o ≡ operation_of x) × (image_within c.n-n.result p o ≡ p)) ended (c.loop-op.invariant o))).0 m in
          subst (λ (n : ℕ). IsWithinCell n o.translation) (sym c.n-n.ensures) (c.invariant.ensures.within_cell o ((kept_of_list ops os o (image_within c.n-n.result p o ≡ p) c.ops-ops.ensures).0 any).0);
    }

pub returns-clause-exact : goal.returns-clause-exact
returns-clause-exact c o =
    let p = triple_of c.args.place in
    let os = c.args.list.now.operations in
    let ops = c.ops-ops.result.now in
    let ended : c.loop-op.op-index ≡ length ops = omega arith in
    let any = only_left (any_all ops c.loop-op.op-index (λ (x : Op). (o ≡ operation_of x) × (image_within c.n-n.result p o ≡ p)) ended (c.loop-op.invariant o)) in
    subst (λ (n : ℕ). IsMember o c.in_ok-site.site.operations ↔ (IsMember o os × (image_within n p o ≡ p))) c.n-n.ensures
    (either_way (c.in_ok-site.ensures.exact o) (either_way any (kept_of_list ops os o (image_within c.n-n.result p o ≡ p) c.ops-ops.ensures)))
