use Rattle.std.proofs.Common.{◌≡◌, ◌++◌, drop}
use Rattle.operation_text.specs.EntryText.{integers_text}
use Rattle.operation_text.proofs.entries.push_integers.Given as goal

-- the integers so far, and those that are left
abbrev pub invariant-loop-integer : goal.invariant-loop-integer
invariant-loop-integer l = l.out ++ integers_text (drop l.integer-index l.integers) ≡ l.initial.out ++ integers_text l.integers
