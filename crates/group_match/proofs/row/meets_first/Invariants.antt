use Rattle.std.proofs.Common.{take}
use Rattle.group_match.specs.Rows.{MeetsFirst, AllMeet}
use Rattle.group_match.proofs.row.meets_first.Given as goal

-- those so far hold
abbrev pub invariant-loop-row : goal.invariant-loop-row
invariant-loop-row l = AllMeet (λ r. MeetsFirst l.k r l.x) (take l.row-index l.rows)
