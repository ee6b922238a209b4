use Rattle.std.proofs.lemmas.Result.{IfOk-weaker}
use Rattle.answers.proofs.compare.answer_compare.Goals as goal

pub returns : goal.returns
returns c = IfOk-weaker c.answer_of_cells.result _ _ (λ answer h. h c.args.cell.now c.args.other.now c.in_ok-first.ensures c.in_ok-second.ensures) c.answer_of_cells.ensures
