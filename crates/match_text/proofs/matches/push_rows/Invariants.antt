use Rattle.std.proofs.Common.{◌≡◌, ◌+◌, ◌++◌, drop}
use Rattle.match_text.specs.MatchText.{rows_text}
use Rattle.match_text.proofs.matches.push_rows.Given as goal

-- what is out, with the rows that are left, is the whole
abbrev pub invariant-loop-i : goal.invariant-loop-i
invariant-loop-i l = l.out ++ rows_text (l.i + 1) (drop l.i l.table) (drop l.i l.maps) ≡ l.fn.out ++ rows_text 1 l.table l.maps
