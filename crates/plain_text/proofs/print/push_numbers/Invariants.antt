use Rattle.std.proofs.Common.{◌≡◌, ◌++◌, drop}
use Rattle.plain_text.specs.NumberText.{numbers_text}
use Rattle.plain_text.proofs.print.push_numbers.Given as goal

-- the numbers so far, and those that are left
abbrev pub invariant-loop-number : goal.invariant-loop-number
invariant-loop-number l = l.out ++ numbers_text l.d (drop l.number-index l.numbers) ≡ l.initial.out ++ numbers_text l.d l.numbers
