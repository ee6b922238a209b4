use Rattle.std.proofs.Common.{sym, ◌∙◌}
use Rattle.cell_text.proofs.MetricLines.{all_six, none_is, past_scale, first_out, last_out, all_in, tensor_is}
use Rattle.cell_text.proofs.metric.metric_of.Goals as goal
use Rattle.cell_text.proofs.metric.metric_of.Goals.{then-not-are_billions-via-then-not-are_billions, then-not-are_billions-via-else-not-are_billions+then-not-are_billions-2}

pub returns-in_err-scale : goal.returns-in_err-scale
returns-in_err-scale c = none_is _ _ _ c.from_residual.ensures (past_scale (all_six c.args.squares.now c.args.products.now) c.in_err-scale.ensures)

pub returns-then-not-are_billions : goal.returns-then-not-are_billions
returns-then-not-are_billions c =
    let scale = c.in_ok-scale.ensures in
    elim c.then-not-are_billions.branch [
      | then-not-are_billions-via-then-not-are_billions w ↦ first_out c.args.squares.now c.args.products.now _ scale.0 scale.2 (sym c.are_billions.ensures ∙ w.if-not-are_billions.true)
      | then-not-are_billions-via-else-not-are_billions+then-not-are_billions-2 w ↦ last_out c.args.squares.now c.args.products.now _ scale.0 scale.2 (sym w.are_billions-else-not-are_billions.ensures ∙ w.if-not-are_billions-2.true)
    ]

pub returns : goal.returns
returns c =
    let scale = c.in_ok-scale.ensures in
    let first = sym c.are_billions.ensures ∙ c.if-not-are_billions.false in
    let last = sym c.are_billions-else-not-are_billions.ensures ∙ c.if-not-are_billions-2.false in
    (all_in c.args.squares.now c.args.products.now _ scale.0 scale.2 first last, c.scaled.ensures ∙ tensor_is (all_six c.args.squares.now c.args.products.now) _ scale.0)
