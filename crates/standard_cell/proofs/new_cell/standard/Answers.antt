use Rattle.std.proofs.Common.{◌^◌, ◌≤◌, ℕ, ℤ, pos, ◌<ℤ◌, ◌≤ℤ◌, sym, subst, ◌∙◌, arith}
use Rattle.std.proofs.lemmas.Int.{ints}
use Rattle.exact_num.specs.Meanings.{fraction_of}
use Rattle.matrix3.specs.Matrices.{vector_map}
use Rattle.crystal_spec.specs.Matrices.{determinant}
use Rattle.crystal_spec.specs.Crystals.{Structure}
use Rattle.match_spec.specs.Fractions.{point_of}
use Rattle.group_match.proofs.Outcomes.{of_none, ok_some_then, ok_none_then}
use Rattle.standard_cell.specs.StandardCells.{IsStandard}
use Rattle.standard_cell.specs.Crystals.{SameAt}
use Rattle.standard_cell.proofs.OriginLemmas.{denominator_above, shift_small, standard_moved, standard_back, too_fine}
use Rattle.standard_cell.proofs.SamePlaces.{same_at}
use Rattle.standard_cell.proofs.new_cell.standard.Goals as goal

above : (d : ℤ) → pos 1 ≤ℤ d → pos 0 <ℤ d
above d h = omega (arith, ints)

some : (n : ℕ) → 1 ≤ n → pos 0 <ℤ pos n
some n h = omega (arith, ints)

pub returns-in_default-clause-too_wide : goal.returns-in_default-clause-too_wide
returns-in_default-clause-too_wide c s st fits =
    let cell = c.cell-cell.result.now in
    let form = c.invariant.ensures in
    too_fine cell s c.args.map.now.turn c.args.map.now.origin (subst (λ (x : Structure). IsStandard x c.args.map.now.turn (point_of (vector_map fraction_of c.args.map.now.origin)) s) (sym c.cell-cell.ensures) st) fits
    (above (determinant c.args.map.now.turn) c.requires.map.at_least) form.cell.some_cells form.form.n_at_most form.cell.first form.cell.of_cell (of_none c.common_origin.result c.common_origin.ensures.absent c.in_default.is)

pub frame_of-frame-requires : goal.frame_of-frame-requires
frame_of-frame-requires c = record {
  n_at_least = subst (λ (n : ℕ). 1 ≤ n) (sym c.n.ensures) c.invariant.ensures.form.n_at_least;
  n_at_most = subst (λ (n : ℕ). n ≤ 10 ^ 6) (sym c.n.ensures) c.invariant.ensures.form.n_at_most;
  turn = c.requires.map.entries;
  at_least = c.requires.map.at_least;
  at_most = c.requires.map.at_most;
  shift = shift_small c.args.map.now.origin c.in-Some.origin c.in-Some.ensures.found c.requires.map.in_cell;
  positive = c.in-Some.ensures.found.positive;
  parts = c.in-Some.ensures.found.small;
}

pub cell_in_frame-requires-clause-n : goal.cell_in_frame-requires-clause-n
cell_in_frame-requires-clause-n c = c.frame_of-frame.ensures.n ∙ c.n.ensures

pub returns-clause-value : goal.returns-clause-value
returns-clause-value c =
    let cell = c.cell-cell.result.now in
    let q = c.args.map.now.turn in
    let f = c.args.map.now.origin in
    ok_some_then c.cell_in_frame.result (λ made st. subst (λ (x : Structure). IsStandard x q (point_of (vector_map fraction_of f)) made) c.cell-cell.ensures
    (standard_moved cell made q f c.in-Some.origin c.frame_of-frame.result c.in-Some.ensures.found c.frame_of-frame.ensures.turn c.frame_of-frame.ensures.shift c.frame_of-frame.ensures.parts st)) c.cell_in_frame.ensures.value

pub returns-clause-same : goal.returns-clause-same
returns-clause-same c =
    let cell = c.cell-cell.result.now in
    let q = c.args.map.now.turn in
    let f = c.args.map.now.origin in
    let form = c.invariant.ensures in
    ok_some_then c.cell_in_frame.result (λ made st. subst (λ (x : Structure). SameAt made x q (point_of (vector_map fraction_of f))) c.cell-cell.ensures
    (same_at cell made q (point_of (vector_map fraction_of f))
    (standard_moved cell made q f c.in-Some.origin c.frame_of-frame.result c.in-Some.ensures.found c.frame_of-frame.ensures.turn c.frame_of-frame.ensures.shift c.frame_of-frame.ensures.parts st)
    (above (determinant q) c.requires.map.at_least) form.cell.some_cells (some cell.k form.form.k_at_least) (record { positive = denominator_above f }))) c.cell_in_frame.ensures.value

pub returns-clause-too_wide : goal.returns-clause-too_wide
returns-clause-too_wide c =
    let cell = c.cell-cell.result.now in
    let q = c.args.map.now.turn in
    let f = c.args.map.now.origin in
    ok_none_then c.cell_in_frame.result (λ none s st fits. none s
    (standard_back cell s q f c.in-Some.origin c.frame_of-frame.result c.in-Some.ensures.found c.frame_of-frame.ensures.turn c.frame_of-frame.ensures.shift c.frame_of-frame.ensures.parts (subst (λ (x : Structure). IsStandard x q (point_of (vector_map fraction_of f)) s) (sym c.cell-cell.ensures) st)) fits) c.cell_in_frame.ensures.too_wide
