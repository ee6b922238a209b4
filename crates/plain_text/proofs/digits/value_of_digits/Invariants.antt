use Rattle.std.proofs.Common.{◌≡◌, drop}
use Rattle.std.specs.List.{fold}
use Rattle.plain_text.specs.Digits.{value_of_digits}
use Rattle.plain_text.proofs.DigitLemmas.{more}
use Rattle.plain_text.proofs.digits.value_of_digits.Given as goal

abbrev pub invariant-loop-b : goal.invariant-loop-b
invariant-loop-b l = fold more l.value (drop l.b-index l.digits) ≡ value_of_digits l.digits
