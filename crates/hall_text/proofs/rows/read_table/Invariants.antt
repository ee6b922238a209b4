use Rattle.std.proofs.Common.{◌≤◌, length, map, vec_items, vec_len}
use Rattle.plain_text.specs.Text.{lines}
use Rattle.hall_text.specs.declared.limits.TheConstants.{MOST_ROWS}
use Rattle.hall_text.specs.Tables.{spaced, rows}
use Rattle.hall_text.proofs.RowLemmas.{Decides}
use Rattle.hall_text.proofs.rows.read_table.Given as goal

-- what is left to read decides
abbrev pub invariant-loop-rest : goal.invariant-loop-rest
invariant-loop-rest l = record {
  decides : Decides (rows l.text) (vec_items l.rows) (map spaced (lines l.rest));
  few : vec_len l.rows ≤ MOST_ROWS;
}

abbrev pub decreases-loop-rest : goal.decreases-loop-rest
decreases-loop-rest l = length l.rest
