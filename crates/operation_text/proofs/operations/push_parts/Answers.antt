use Rattle.operation_text.specs.OperationText.{parts_text}
use Rattle.operation_text.proofs.LineLemmas.{parts_from_pieces}
use Rattle.operation_text.proofs.operations.push_parts.Goals as goal

pub returns : goal.returns
unfolding parts_text
returns c =
    parts_from_pieces c.args.out.now _ _ _ _ _ _ _ _ _ _ _ c.in_ok-push_row.ensures c.in_ok-push.ensures.value c.in_ok-push_row-2.ensures c.in_ok-push-2.ensures.value c.in_ok-push_row-3.ensures c.in_ok-push-3.ensures.value c.in_ok-push_sign.ensures
