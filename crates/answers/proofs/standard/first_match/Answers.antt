use Rattle.std.proofs.Common.{subst}
use Rattle.std.specs.Prelude.{IfSome}
use Rattle.std.specs.declared.option.Option.{Option}
use Rattle.group_match.specs.declared.map.Map.{Map}
use Rattle.answers.specs.IdentifyReports.{IsRowMap}
use Rattle.answers.specs.Matchings.{IsMapOfGroup}
use Rattle.answers.proofs.StandardLemmas.{none_yet, matched_row}
use Rattle.answers.proofs.standard.first_match.Goals as goal

-- the rows before it have no map
pub returns-in-Some-clause-matched : goal.returns-in-Some-clause-matched
returns-in-Some-clause-matched c =
    let n = c.args.found.now.n in
    let os = c.args.found.now.operations in
    let s = c.symbol.result.now in
    matched_row n os c.args.table.now c.loop-row.row s c.in-Some.map c.loop-row.invariant c.symbol.ensures
    (subst (λ (o : Option Map). IfSome o (IsMapOfGroup n os s)) c.in-Some.is c.in_ok-map.ensures.group)

pub loop-row-preserved : goal.loop-row-preserved
loop-row-preserved c =
    let n = c.args.found.now.n in
    let os = c.args.found.now.operations in
    let s = c.symbol.result.now in
    none_yet n os c.args.table.now c.loop-row.row s c.loop-row.invariant c.symbol.ensures
    (subst (λ (o : Option Map). IsRowMap n os s o) c.in_default.is c.in_ok-map.ensures.value)
