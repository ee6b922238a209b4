use Rattle.compare_text.proofs.Lines.{three_pieces}
use Rattle.compare_text.proofs.comparison.push_back.Goals as goal

pub returns : goal.returns
returns c = three_pieces c.args.out.now _ _ _ _ _ _ c.in_ok-append.ensures.value c.in_ok-push_entries.ensures c.in_ok-push.ensures.value
