use Rattle.std.proofs.Common.{◌≡◌, ◌⊎◌, [], ℕ, ◌<◌, List, length, get_or, map, sym, subst, arith}
use Rattle.std.proofs.lemmas.List.{get_or_default}
use Rattle.std.specs.Prelude.{◌↔◌}
use Rattle.lists.specs.Increasing.{IsMember}
use Rattle.lists.proofs.Any.{any_more, any_all, any_mapped}
use Rattle.positions.specs.Positions.{triple_of}
use Rattle.op_group.specs.Views.{operation_of}
use Rattle.op_group.specs.declared.operation.Op.{Op}
use Rattle.mag_ops.proofs.CarriedBack.{value_pushed, either_same}
use Rattle.mag_ops.proofs.carried.add_shifted.Goals as goal

pub loop-shift-preserved : goal.loop-shift-preserved
loop-shift-preserved c o =
    let ts = c.args.shifts.now in
    let i = c.loop-shift.shift-index in
    let s = get_or ts i [] in
    let below : i < length ts = omega arith in
    let x : Op = record { w = c.args.w.now; shift = s; sign = c.args.sign } in
    let P : List ℕ → Type 0 = λ t. o ≡ record { matrix = c.args.w.now; translation = triple_of t; sign = c.args.sign } in
    any_more ts i s P below (get_or_default ts i [] s below)
    (subst (λ (l : List Op). IsMember o (map operation_of l) ↔ (P s ⊎ IsMember o (map operation_of c.loop-shift.found.items))) (sym c.in_ok-push.ensures.items) (value_pushed operation_of c.loop-shift.found.items x o))
    (c.loop-shift.invariant o)

pub returns : goal.returns
returns c o =
    let ended : c.loop-shift.shift-index ≡ length c.args.shifts.now = omega arith in
    let all = any_all c.args.shifts.now c.loop-shift.shift-index (λ s. o ≡ record { matrix = c.args.w.now; translation = triple_of s; sign = c.args.sign }) ended (c.loop-shift.invariant o) in
    either_same (any_mapped triple_of c.args.shifts.now (λ t. o ≡ record { matrix = c.args.w.now; translation = t; sign = c.args.sign })) all
