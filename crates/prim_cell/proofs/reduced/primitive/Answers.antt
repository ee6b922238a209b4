use Rattle.std.proofs.Common.{◌≡◌, length, subst, sym, ap, ◌∙◌}
use Rattle.crystal_spec.specs.Crystals.{Structure}
use Rattle.crystal.specs.Numbering.{AreByFirstUse}
use Rattle.crystal.specs.Views.{metric_of}
use Rattle.basis_spec.specs.Translations.{ListsPureTranslations}
use Rattle.prim_cell.specs.Primitives.{PrimitiveCell, TakesToStepBasis}
use Rattle.prim_cell.proofs.Numbering.{stays_numbered}
use Rattle.prim_cell.proofs.ReducedBases.{is_primitive_cell}
use Rattle.prim_cell.proofs.reduced.primitive.Goals as goal

pub new-requires-2 : goal.new-requires-2
new-requires-2 c =
    let s = c.args.cell.now in
    let basis = c.reduced_basis-basis.result in
    let list = c.in_ok-shifts.shifts in
    is_primitive_cell s c.in_ok-made.made c.invariant.ensures.cell c.requires.sizes.metric list basis.index basis.back basis.fore (metric_of basis.metric)
    (c.in_ok-shifts.ensures.n ∙ ap (λ (t : Structure). t.n) c.in_ok-places.ensures)
    (subst (λ (t : Structure). ListsPureTranslations t list.operations) c.in_ok-places.ensures c.in_ok-shifts.ensures.exact)
    c.reduced_basis-basis.ensures c.in_ok-made.ensures

pub returns-clause-kept : goal.returns-clause-kept
returns-clause-kept c =
    subst (λ (p : PrimitiveCell). TakesToStepBasis c.args.cell.now p.shifts.operations p.back) (sym c.new-2.ensures) c.reduced_basis-basis.ensures.kept

pub returns-clause-count : goal.returns-clause-count
returns-clause-count c =
    subst (λ (p : PrimitiveCell). length p.shifts.operations ≡ p.index) (sym c.new-2.ensures) c.reduced_basis-basis.ensures.count

pub returns-clause-numbered : goal.returns-clause-numbered
returns-clause-numbered c =
    let s = c.args.cell.now in
    let basis = c.reduced_basis-basis.result in
    subst (λ (p : PrimitiveCell). AreByFirstUse 0 (length s.names) s.atoms → AreByFirstUse 0 (length p.cell.names) p.cell.atoms) (sym c.new-2.ensures)
    (stays_numbered s basis.back c.invariant.ensures.cell.some_cells c.reduced_basis-basis.ensures.primitive.same c.in_ok-made.made c.in_ok-made.ensures)
