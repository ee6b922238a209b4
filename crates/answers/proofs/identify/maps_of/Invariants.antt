use Rattle.std.proofs.Common.{◌++◌, List, drop, map}
use Rattle.std.specs.Prelude.{Option}
use Rattle.hall_text.specs.declared.rows.Row.{Row}
use Rattle.group_match.specs.declared.map.Map.{Map}
use Rattle.answers.specs.IdentifyReports.{AreRowMaps}
use Rattle.answers.proofs.identify.maps_of.Given as goal

-- with maps of the rows that are left, they are those of all rows
abbrev pub invariant-loop-i : goal.invariant-loop-i
invariant-loop-i l = (later : List (Option Map)) → AreRowMaps l.found.n l.found.operations (drop l.i (map (λ (row : Row). row.symbol) l.table)) later → AreRowMaps l.found.n l.found.operations (map (λ (row : Row). row.symbol) l.table) (l.maps ++ later)
