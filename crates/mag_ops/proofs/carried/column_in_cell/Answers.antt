use Rattle.std.proofs.Common.{◌≡◌, ◌∙◌, ◌^◌, ◌*◌, ◌+◌, ◌≤◌, ℕ, pos, sym, ap, subst, lit≤}
use Rattle.crystal_spec.specs.Matrices.{Matrix, image, multiple}
use Rattle.matrix3.specs.Bounds.{EntriesAtMost, CoordinatesAtMost}
use Rattle.matrix3.proofs.FitsBySize.{image_fits, image_size, coordinates_grown}
use Rattle.mag_ops.proofs.CarriedBack.{some_then, none_then, index_at_least, column_found, column_taken, column_small}
use Rattle.mag_ops.proofs.carried.column_in_cell.Goals as goal

pub apply-times_index-requires-clause-fits : goal.apply-times_index-requires-clause-fits
apply-times_index-requires-clause-fits c =
    image_fits _ _ (subst (EntriesAtMost (5 * 10 ^ 15)) (sym c.fore.ensures) c.index-index.ensures.form.fore_entries) c.requires tt

pub returns-clause-found : goal.returns-clause-found
returns-clause-found c =
    let p = c.args.prim.now in
    let v = c.args.column.now in
    let is : c.apply-times_index.result ≡ image p.fore v = c.apply-times_index.ensures.value ∙ ap (λ (m : Matrix). image m v) c.fore.ensures in
    some_then c.divided.result (λ t e. column_found p c.index-index.ensures.form v t (sym is ∙ e ∙ ap (λ (k : ℕ). multiple (pos k) t) c.index-index.ensures.value)) c.divided.ensures.found

pub returns-clause-absent : goal.returns-clause-absent
returns-clause-absent c =
    let p = c.args.prim.now in
    let v = c.args.column.now in
    let is : c.apply-times_index.result ≡ image p.fore v = c.apply-times_index.ensures.value ∙ ap (λ (m : Matrix). image m v) c.fore.ensures in
    none_then c.divided.result (λ none t e. none t (is ∙ column_taken p c.index-index.ensures.form v t e ∙ ap (λ (k : ℕ). multiple (pos k) t) (sym c.index-index.ensures.value))) c.divided.ensures.absent

pub returns-clause-size : goal.returns-clause-size
returns-clause-size c =
    let p = c.args.prim.now in
    let v = c.args.column.now in
    let form = c.index-index.ensures.form in
    let m = 5 * 10 ^ 15 * 2 ^ 32 + 5 * 10 ^ 15 * 2 ^ 32 + 5 * 10 ^ 15 * 2 ^ 32 in
    let is : c.apply-times_index.result ≡ image p.fore v = c.apply-times_index.ensures.value ∙ ap (λ (a : Matrix). image a v) c.fore.ensures in
    let large = subst (CoordinatesAtMost m) (sym is) (image_size p.fore v form.fore_entries c.requires) in
    let some = subst (λ (k : ℕ). 1 ≤ k) (sym c.index-index.ensures.value) (index_at_least p form) in
    some_then c.divided.result (λ t e. coordinates_grown {v = t} (lit≤ tt) (column_small c.index-index.result m c.apply-times_index.result t some e large)) c.divided.ensures.found
