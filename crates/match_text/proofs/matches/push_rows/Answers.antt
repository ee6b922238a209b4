use Rattle.std.proofs.Common.{sym, ap, ◌∙◌, ℕ, List, ◌+◌, ◌++◌, drop, append_assoc}
use Rattle.match_text.specs.MatchText.{matched_text, rows_text}
use Rattle.match_text.proofs.RowLemmas.{rows-drop}
use Rattle.match_text.proofs.matches.push_rows.Goals as goal

-- the line of this row, and those of the rows behind it
pub loop-i-preserved : goal.loop-i-preserved
loop-i-preserved c =
    let i = c.loop-i.i in
    let out = c.loop-i.out in
    let m = c.at.result in
    let rest = rows_text (i + 1 + 1) (drop (i + 1) c.args.table.now) (drop (i + 1) c.args.maps.now) in
    ap (λ (o : List ℕ). o ++ rest) c.in_ok-push_matched.ensures
    ∙ append_assoc out (matched_text (i + 1) c.as_slice.result.now m) rest
    ∙ ap (λ (name : List ℕ). out ++ (matched_text (i + 1) name m ++ rest)) c.as_slice.ensures
    ∙ ap (λ (text : List ℕ). out ++ text) (sym (rows-drop c.args.table.now c.args.maps.now i (i + 1) c.name.result.now m c.name.ensures c.at.ensures))
    ∙ c.loop-i.invariant
