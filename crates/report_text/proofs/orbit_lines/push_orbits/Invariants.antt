use Rattle.std.proofs.Common.{◌≡◌, ◌++◌, drop}
use Rattle.report_text.specs.OrbitText.{orbit_lines}
use Rattle.report_text.proofs.orbit_lines.push_orbits.Given as goal

-- the lines so far, and those of the orbits that begin at an atom that is left
abbrev pub invariant-loop-i : goal.invariant-loop-i
invariant-loop-i l = l.out ++ orbit_lines l.i (drop l.i l.orbits) ≡ l.initial.out ++ orbit_lines 0 l.orbits
