use Rattle.std.proofs.Common.{take}
use Rattle.group_match.specs.Rows.{MeetsThird, AllMeet}
use Rattle.group_match.proofs.row.meets_third.Given as goal

-- those so far hold
abbrev pub invariant-loop-row : goal.invariant-loop-row
invariant-loop-row l = AllMeet (λ r. MeetsThird l.k r l.x l.y l.z) (take l.row-index l.rows)
