use Rattle.std.proofs.Common.{sym, ◌∙◌}
use Rattle.status_lines.proofs.TellingLemmas.{tells_first_part}
use Rattle.status_lines.proofs.telling.+tell_pieces.Goals as goal

pub returns-else-is_ok-clause-told : goal.returns-else-is_ok-clause-told
returns-else-is_ok-clause-told g t c =
    tells_first_part c.args.pieces.now _ _ _ _ c.write_whole.result c.in-len1-up.len_at_least (sym c.is_ok.ensures.value ∙ c.if-is_ok.false) c.write_whole.ensures.written
