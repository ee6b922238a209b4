use Rattle.std.proofs.Common.{◌≡◌, ◌++◌, drop, map}
use Rattle.serde_json.specs.View.{view}
use Rattle.report_text.specs.DatasetText.{orbit_data}
use Rattle.report_text.proofs.dataset.orbit_values.Given as goal

-- the values so far, and those of the atoms that are left
abbrev pub invariant-loop-i : goal.invariant-loop-i
invariant-loop-i l = map view l.values.items ++ map orbit_data (drop l.i l.orbits) ≡ map orbit_data l.orbits
