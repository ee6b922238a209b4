use Rattle.std.proofs.Common.{◌≡◌, ℕ, List, [], ◌∷◌, length, map, drop, subst, arith}
use Rattle.std.specs.Prelude.{Option}
use Rattle.std.proofs.lemmas.List.{append-nil}
use Rattle.hall_text.specs.declared.rows.Row.{Row}
use Rattle.group_match.specs.declared.map.Map.{Map}
use Rattle.answers.specs.IdentifyReports.{AreRowMaps}
use Rattle.answers.proofs.IdentifyLemmas.{row_before, no_row_left, appended}
use Rattle.answers.proofs.identify.maps_of.Goals as goal

-- the map of this row stands before those of the rows behind it
pub loop-i-preserved : goal.loop-i-preserved
loop-i-preserved c later rest =
    let n = c.args.found.now.n in
    let os = c.args.found.now.operations in
    let symbols = map (λ (row : Row). row.symbol) c.args.table.now in
    let m = c.in_ok-map_of.field-0 in
    let maps = c.loop-i.maps in
    let whole = c.loop-i.invariant (m ∷ later) (row_before n os symbols c.loop-i.i c.symbol.result.now m later c.symbol.ensures c.in_ok-map_of.ensures.value rest) in
    subst (λ (all : List (Option Map)). AreRowMaps n os symbols all) (appended maps c.push.new.self m later c.in_ok-push.ensures.value) whole

-- the maps of all rows
pub returns : goal.returns
returns c =
    let n = c.args.found.now.n in
    let os = c.args.found.now.operations in
    let rows = c.args.table.now in
    let symbols = map (λ (row : Row). row.symbol) rows in
    let last : length rows ≡ c.loop-i.i = omega (arith, c.count-i-end.ensures, c.loop-i-test.false, c.loop-i.auto.i-end) in
    let left = subst (λ (i : ℕ). AreRowMaps n os (drop i symbols) []) last (no_row_left n os rows) in
    subst (λ (all : List (Option Map)). AreRowMaps n os symbols all) (append-nil c.loop-i.maps) (c.loop-i.invariant [] left)
