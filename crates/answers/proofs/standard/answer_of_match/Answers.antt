use Rattle.std.proofs.Common.{sym, subst, ◌+◌, true, arith, add-one}
use Rattle.std.specs.Prelude.{IfSome, IfNone}
use Rattle.std.specs.declared.option.Option.{Option}
use Rattle.crystal_spec.specs.Crystals.{Structure}
use Rattle.standard_cell.specs.Crystals.{SameAt}
use Rattle.standard_cell.specs.StandardCells.{IsStandard, IsWithinLimits}
use Rattle.report_basis.specs.declared.Kept.{Kept}
use Rattle.answers.specs.StandardReports.{IsStandardReport, origin_of}
use Rattle.answers.proofs.StandardLemmas.{can_take, matched_within, matched_name, too_wide, cell_report}
use Rattle.answers.proofs.standard.answer_of_match.Goals as goal

pub standard-requires : goal.standard-requires
standard-requires c = record { map = can_take c.first_maps_can_be_taken.ensures c.args.found.now.group.n c.args.found.now.group.operations c.args.table.now c.args.matching.now c.requires.matching }

-- the number of the row is below that of all rows
pub overflow_add-matching : goal.overflow_add-matching
overflow_add-matching c =
    let below = matched_within c.args.found.now.group.n c.args.found.now.group.operations c.args.table.now c.args.matching.now c.requires.matching in
    omega (arith, below, c.count-rows.ensures, c.count-rows.type_inv)

-- no cell can hold it
pub returns-in-None : goal.returns-in-None
returns-in-None c s found =
    let p = c.args.found.now.made in
    let m = c.args.matching.now in
    too_wide s p c.args.found.now.group c.args.table.now found m c.requires.matching _ c.back.ensures
    (subst (λ (o : Option Structure). IfNone o ((t : Structure) → IsStandard p.cell m.map.turn (origin_of m.map) t → IsWithinLimits t → ⊥)) c.in-None.is c.in_ok-standard.ensures.too_wide)

pub returns-in_ok-text-in-Some : goal.returns-in_ok-text-in-Some
returns-in_ok-text-in-Some c s found =
    let p = c.args.found.now.made in
    let list = c.args.found.now.group in
    let rows = c.args.table.now in
    let m = c.args.matching.now in
    let h = c.requires.matching in
    let text = c.in_ok-text-in-Some.text in
    let standard = subst (λ (o : Option Structure). IfSome o (λ (t : Structure). IsStandard p.cell m.map.turn (origin_of m.map) t)) c.in-Some.is c.in_ok-standard.ensures.value in
    let same = subst (λ (o : Option Structure). IfSome o (λ (t : Structure). SameAt t p.cell m.map.turn (origin_of m.map))) c.in-Some.is c.in_ok-standard.ensures.same in
    subst (λ (k : Kept). IsStandardReport s rows k true text) (sym c.kept.ensures)
    (cell_report s p list rows found m h c.standard_has_group_of_symbol.ensures c.in-Some.cell (m.row + 1) c.name-name.result.now text standard same (add-one m.row)
    (matched_name list.n list.operations rows m c.name-name.result.now h c.name-name.ensures) c.in_ok-text-in-Some.ensures.value)
