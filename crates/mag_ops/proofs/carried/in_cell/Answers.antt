use Rattle.std.proofs.Common.{◌≡◌, ℕ, length, sym, ap, subst, ◌∙◌, arith}
use Rattle.std.specs.Prelude.{◌↔◌}
use Rattle.lists.specs.Increasing.{IsMember}
use Rattle.lists.proofs.Members.{member_read, mapped_member}
use Rattle.lists.proofs.Any.{any_more}
use Rattle.crystal_spec.specs.Crystals.{Structure}
use Rattle.crystal_spec.specs.Operations.{Operation, IsWithinCell}
use Rattle.crystal_spec.specs.Cells.{IsCell}
use Rattle.basis_spec.specs.Carrying.{IsCarried}
use Rattle.basis_spec.proofs.AllOperations.{in_cell_is_all, in_cell_is_all_same}
use Rattle.op_group.specs.Views.{operation_of}
use Rattle.mag_ops.specs.Carried.{IsCarriedFrom}
use Rattle.mag_ops.proofs.CarriedBack.{list_carried, symmetry_of_group, reduced_isometry_small}
use Rattle.mag_ops.proofs.carried.in_cell.Goals as goal

pub add_carried-requires-clause-small : goal.add_carried-requires-clause-small
add_carried-requires-clause-small c =
    let cell = subst (λ (s : Structure). IsCell s) c.cell-cell.ensures c.invariant.ensures.cell in
    let v = operation_of c.op-item.result in
    let member = subst (IsMember v) c.ops-ops.ensures (mapped_member operation_of c.op-item.result c.ops-ops.result.now (member_read c.ops-ops.result.now c.loop-op.op-index c.op-item.result (omega arith) c.op-item.is)) in
    let symmetry = symmetry_of_group c.args.prim.now.cell c.args.list.now.operations c.requires.group v member in
    reduced_isometry_small c.args.prim.now.cell.metric v.matrix c.invariant-2.ensures.form.niggli cell.symmetric symmetry.keeps.metric

pub add_carried-requires-clause-below_n : goal.add_carried-requires-clause-below_n
add_carried-requires-clause-below_n c =
    let v = operation_of c.op-item.result in
    let member = subst (IsMember v) c.ops-ops.ensures (mapped_member operation_of c.op-item.result c.ops-ops.result.now (member_read c.ops-ops.result.now c.loop-op.op-index c.op-item.result (omega arith) c.op-item.is)) in
    (symmetry_of_group c.args.prim.now.cell c.args.list.now.operations c.requires.group v member).translation

pub loop-op-preserved : goal.loop-op-preserved
loop-op-preserved c o =
    let p = c.args.prim.now in
    any_more c.ops-ops.result.now c.loop-op.op-index c.op-item.result (λ x. IsCarriedFrom p.cell.n p.back (operation_of x) o) (omega arith) c.op-item.is (c.in_ok-add_carried.ensures o) (c.loop-op.invariant o)

pub sorted-requires : goal.sorted-requires
sorted-requires c =
    let p = c.args.prim.now in
    let ended : c.loop-op.op-index ≡ length c.ops-ops.result.now = omega arith in
    let carried = list_carried p.cell.n p.back c.ops-ops.result.now c.args.list.now.operations _ c.ops-ops.ensures c.loop-op.op-index ended c.loop-op.invariant in
    let n : p.cell.n ≡ c.n.result = sym (c.n.ensures ∙ ap (λ (s : Structure). s.n) c.cell-cell.ensures) in
    record { below_n = λ o m. subst (λ (k : ℕ). IsWithinCell k o.translation) n ((carried o).0 m).translation }

pub returns-clause-exact : goal.returns-clause-exact
returns-clause-exact c o =
    let p = c.args.prim.now in
    let ended : c.loop-op.op-index ≡ length c.ops-ops.result.now = omega arith in
    let carried = list_carried p.cell.n p.back c.ops-ops.result.now c.args.list.now.operations _ c.ops-ops.ensures c.loop-op.op-index ended c.loop-op.invariant o in
    let sorted = c.in_ok-found.ensures.exact o in
    ((λ m. carried.0 (sorted.0 m)), (λ k. sorted.1 (carried.1 k)))

pub returns-clause-all : goal.returns-clause-all
returns-clause-all c s cell kept is all =
    let p = c.args.prim.now in
    let os = c.args.list.now.operations in
    let ended : c.loop-op.op-index ≡ length c.ops-ops.result.now = omega arith in
    let carried = list_carried p.cell.n p.back c.ops-ops.result.now os _ c.ops-ops.ensures c.loop-op.op-index ended c.loop-op.invariant in
    let exact : (o : Operation) → IsMember o c.in_ok-found.found.operations ↔ IsCarried p.cell.n p.back os o = λ o. ((λ m. (carried o).0 ((c.in_ok-found.ensures.exact o).0 m)), (λ k. (c.in_ok-found.ensures.exact o).1 ((carried o).1 k))) in
    in_cell_is_all p.cell p.back os c.in_ok-found.found.operations all c.invariant-3.ensures.ordered exact s cell kept is

pub returns-clause-all_same : goal.returns-clause-all_same
returns-clause-all_same c s cell kept is all =
    let p = c.args.prim.now in
    let os = c.args.list.now.operations in
    let ended : c.loop-op.op-index ≡ length c.ops-ops.result.now = omega arith in
    let carried = list_carried p.cell.n p.back c.ops-ops.result.now os _ c.ops-ops.ensures c.loop-op.op-index ended c.loop-op.invariant in
    let exact : (o : Operation) → IsMember o c.in_ok-found.found.operations ↔ IsCarried p.cell.n p.back os o = λ o. ((λ m. (carried o).0 ((c.in_ok-found.ensures.exact o).0 m)), (λ k. (c.in_ok-found.ensures.exact o).1 ((carried o).1 k))) in
    in_cell_is_all_same p.cell p.back os c.in_ok-found.found.operations all c.invariant-3.ensures.ordered exact s cell kept is
