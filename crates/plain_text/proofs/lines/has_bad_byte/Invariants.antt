use Rattle.std.proofs.Common.{◌≡◌, take, false}
use Rattle.std.specs.List.{list_any}
use Rattle.plain_text.specs.Text.{is_bad_byte}
use Rattle.plain_text.proofs.lines.has_bad_byte.Given as goal

abbrev pub invariant-loop-b : goal.invariant-loop-b
invariant-loop-b l = list_any is_bad_byte (take l.b-index l.line) ≡ false
