use Rattle.std.proofs.Common.{◌≡◌, ◌∙◌, ◌^◌, ◌*◌, ◌+◌, sym, ap, subst, lit≤}
use Rattle.crystal_spec.specs.Matrices.{Matrix, product}
use Rattle.matrix3.specs.Bounds.{EntriesAtMost, CoordinatesAtMost}
use Rattle.matrix3.proofs.FitsBySize.{grown, product_fits, product_size}
use Rattle.mag_ops.proofs.CarriedBack.{none_of, column1_of, column2_of, column3_of}
use Rattle.matrix3.specs.Matrices.{column1, column2, column3}
use Rattle.mag_ops.proofs.carried.matrix_in_cell.Goals as goal

pub times-turned-requires-clause-fits : goal.times-turned-requires-clause-fits
times-turned-requires-clause-fits c =
    product_fits _ _ c.requires (subst (EntriesAtMost (50 * 10 ^ 6)) (sym c.back.ensures) c.invariant.ensures.form.back_entries) tt

pub column_in_cell-requires : goal.column_in_cell-requires
column_in_cell-requires c =
    let m = 1 * (50 * 10 ^ 6) + 1 * (50 * 10 ^ 6) + 1 * (50 * 10 ^ 6) in
    let back = subst (EntriesAtMost (50 * 10 ^ 6)) (sym c.back.ensures) c.invariant.ensures.form.back_entries in
    let small = subst (EntriesAtMost m) (sym c.times-turned.ensures.value) (product_size c.args.v.now c.back.result.now c.requires back) in
    subst (CoordinatesAtMost (2 ^ 32)) (sym c.columns-first.ensures.first) (record { x = grown (lit≤ tt) small.a11; y = grown (lit≤ tt) small.a21; z = grown (lit≤ tt) small.a31 })

pub column_in_cell-requires-2 : goal.column_in_cell-requires-2
column_in_cell-requires-2 c =
    let m = 1 * (50 * 10 ^ 6) + 1 * (50 * 10 ^ 6) + 1 * (50 * 10 ^ 6) in
    let back = subst (EntriesAtMost (50 * 10 ^ 6)) (sym c.back.ensures) c.invariant.ensures.form.back_entries in
    let small = subst (EntriesAtMost m) (sym c.times-turned.ensures.value) (product_size c.args.v.now c.back.result.now c.requires back) in
    subst (CoordinatesAtMost (2 ^ 32)) (sym c.columns-first.ensures.second) (record { x = grown (lit≤ tt) small.a12; y = grown (lit≤ tt) small.a22; z = grown (lit≤ tt) small.a32 })

pub column_in_cell-requires-3 : goal.column_in_cell-requires-3
column_in_cell-requires-3 c =
    let m = 1 * (50 * 10 ^ 6) + 1 * (50 * 10 ^ 6) + 1 * (50 * 10 ^ 6) in
    let back = subst (EntriesAtMost (50 * 10 ^ 6)) (sym c.back.ensures) c.invariant.ensures.form.back_entries in
    let small = subst (EntriesAtMost m) (sym c.times-turned.ensures.value) (product_size c.args.v.now c.back.result.now c.requires back) in
    subst (CoordinatesAtMost (2 ^ 32)) (sym c.columns-first.ensures.third) (record { x = grown (lit≤ tt) small.a13; y = grown (lit≤ tt) small.a23; z = grown (lit≤ tt) small.a33 })

pub returns-in_err-column_in_cell-clause-absent : goal.returns-in_err-column_in_cell-clause-absent
returns-in_err-column_in_cell-clause-absent c =
    let turned = c.times-turned.ensures.value ∙ ap (product c.args.v.now) c.back.ensures in
    none_of {P = (w : Matrix) → ¬ (product c.args.v.now c.args.prim.now.back ≡ product c.args.prim.now.back w)} _ (λ w e. c.in_err-column_in_cell.ensures.absent (column1 w) (column1_of c.times-turned.result c.args.prim.now.back w (turned ∙ e) ∙ sym c.columns-first.ensures.first))

pub returns-in_err-column_in_cell-2-clause-absent : goal.returns-in_err-column_in_cell-2-clause-absent
returns-in_err-column_in_cell-2-clause-absent c =
    let turned = c.times-turned.ensures.value ∙ ap (product c.args.v.now) c.back.ensures in
    none_of {P = (w : Matrix) → ¬ (product c.args.v.now c.args.prim.now.back ≡ product c.args.prim.now.back w)} _ (λ w e. c.in_err-column_in_cell-2.ensures.absent (column2 w) (column2_of c.times-turned.result c.args.prim.now.back w (turned ∙ e) ∙ sym c.columns-first.ensures.second))

pub returns-in_err-column_in_cell-3-clause-absent : goal.returns-in_err-column_in_cell-3-clause-absent
returns-in_err-column_in_cell-3-clause-absent c =
    let turned = c.times-turned.ensures.value ∙ ap (product c.args.v.now) c.back.ensures in
    none_of {P = (w : Matrix) → ¬ (product c.args.v.now c.args.prim.now.back ≡ product c.args.prim.now.back w)} _ (λ w e. c.in_err-column_in_cell-3.ensures.absent (column3 w) (column3_of c.times-turned.result c.args.prim.now.back w (turned ∙ e) ∙ sym c.columns-first.ensures.third))
