use Rattle.cell_text.proofs.MetricLines.{past_half, none_is}
use Rattle.cell_text.proofs.metric.scale_of.Goals as goal

pub returns-in_err-half : goal.returns-in_err-half
returns-in_err-half c = none_is _ _ _ c.from_residual.ensures (past_half c.args.squares.now c.args.products.now c.in_err-half.ensures)
