use Rattle.std.proofs.Common.{◌≡◌, ℕ, List, map, sym, subst, ◌∙◌}
use Rattle.std.specs.Prelude.{◌↔◌}
use Rattle.lists.specs.Any.{AnyOf}
use Rattle.lists.specs.Increasing.{IsMember}
use Rattle.crystal_spec.specs.Matrices.{Triple, image, sum_of}
use Rattle.crystal_spec.specs.Crystals.{Structure}
use Rattle.crystal_spec.specs.Cells.{IsCell}
use Rattle.positions.specs.Positions.{modulo, triple_of}
use Rattle.op_group.specs.Lists.{OperationList, AllWithinCell}
use Rattle.op_group.specs.Views.{operation_of}
use Rattle.mag_ops.proofs.CarriedBack.{ok_then, none_more, none_started, translated_exactly, translated_by, either_same}
use Rattle.mag_ops.proofs.carried.add_carried.Goals as goal

pub returns-in_default-column_in_cell : goal.returns-in_default-column_in_cell
returns-in_default-column_in_cell c o =
    let p = c.args.prim.now in
    let form = c.invariant-2.ensures.form in
    let cell = subst (λ (s : Structure). IsCell s) c.cell.ensures c.invariant.ensures.cell in
    let v = operation_of c.args.op.now in
    let within = subst (λ (m : ℕ). AllWithinCell m p.shifts.operations) form.same_n (subst (λ (l : OperationList). AllWithinCell l.n l.operations) c.shifts.ensures c.invariant-3.ensures.within_cell) in
    let none : (t : Triple) → image p.back t ≡ v.translation → ⊥ = λ t e. c.in_default-column_in_cell.ensures.absent t (e ∙ sym c.column.ensures.value) in
    none_more (none_started p.cell.n p form (sym form.same_n) cell.some_cells within v o none)

pub returns : goal.returns
returns c =
    let p = c.args.prim.now in
    let form = c.invariant-2.ensures.form in
    let cell = subst (λ (s : Structure). IsCell s) c.cell.ensures c.invariant.ensures.cell in
    let v = operation_of c.args.op.now in
    let within = subst (λ (m : ℕ). AllWithinCell m p.shifts.operations) form.same_n (subst (λ (l : OperationList). AllWithinCell l.n l.operations) c.shifts.ensures c.invariant-3.ensures.within_cell) in
    let started = c.in-Some-column_in_cell.ensures.found ∙ c.column.ensures.value in
    let sums = subst (λ (ts : List (List ℕ)). (t : Triple) → IsMember t (map triple_of ts) ↔ AnyOf p.shifts.operations (λ q. t ≡ modulo p.cell.n (sum_of c.in-Some-column_in_cell.start q.translation))) (sym c.deref.ensures.value) c.in_ok-shifts.ensures in
    ok_then c.add_shifted.result (λ h o. either_same (translated_exactly p.cell.n p form (sym form.same_n) cell.some_cells within v c.in-Some.w c.in-Some-column_in_cell.start c.requires.below_n c.in-Some.ensures.found started o) (either_same (translated_by p.cell.n c.in-Some.w c.in-Some-column_in_cell.start v.sign (map triple_of c.deref.result.now) p.shifts.operations sums o) (h o))) c.add_shifted.ensures
