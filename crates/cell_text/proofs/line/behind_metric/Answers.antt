use Rattle.std.proofs.Common.{arith}
use Rattle.cell_text.proofs.Judging.{six_words}
use Rattle.cell_text.proofs.line.behind_metric.Goals as goal

pub returns-in-len6 : goal.returns-in-len6
returns-in-len6 c = six_words (λ w. w.now) c.args.words.now _ (omega arith) (omega arith)
