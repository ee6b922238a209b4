use Rattle.std.proofs.Common.{take}
use Rattle.answers.specs.StandardReports.{AreUnmatched}
use Rattle.answers.proofs.standard.first_match.Given as goal

-- no row so far has a map
abbrev pub invariant-loop-row : goal.invariant-loop-row
invariant-loop-row l = AreUnmatched l.found.n l.found.operations (take l.row l.table)
