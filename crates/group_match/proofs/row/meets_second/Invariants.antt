use Rattle.std.proofs.Common.{take}
use Rattle.group_match.specs.Rows.{MeetsSecond, AllMeet}
use Rattle.group_match.proofs.row.meets_second.Given as goal

-- those so far hold
abbrev pub invariant-loop-row : goal.invariant-loop-row
invariant-loop-row l = AllMeet (λ r. MeetsSecond l.k r l.x l.y) (take l.row-index l.rows)
