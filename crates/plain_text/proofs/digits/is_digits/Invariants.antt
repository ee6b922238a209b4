use Rattle.std.proofs.Common.{◌≡◌, take, true}
use Rattle.std.specs.List.{list_all}
use Rattle.plain_text.specs.Digits.{is_digit}
use Rattle.plain_text.proofs.digits.is_digits.Given as goal

abbrev pub invariant-loop-b : goal.invariant-loop-b
invariant-loop-b l = list_all is_digit (take l.b-index l.part) ≡ true
