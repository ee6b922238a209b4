use Rattle.operation_text.proofs.LineLemmas.{line_from_pieces}
use Rattle.operation_text.proofs.operations.push_operation.Goals as goal

pub returns : goal.returns
returns c = line_from_pieces c.args.out.now _ _ _ c.in_ok-push_parts.ensures c.in_ok-push.ensures.value
