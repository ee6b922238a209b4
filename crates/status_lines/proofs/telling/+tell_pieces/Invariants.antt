use Rattle.std.proofs.Common.{length}
use Rattle.status_lines.proofs.telling.+tell_pieces.Given as goal

abbrev pub decreases-tell_pieces : goal.decreases-tell_pieces
decreases-tell_pieces g l = length l.pieces.now
