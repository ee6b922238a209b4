use Rattle.std.proofs.Common.{◌≡◌, ◌≤◌, ◌+◌, drop}
use Rattle.group_match.specs.Kinds.{number_of_kind}
use Rattle.group_match.proofs.kind.count.Given as goal

-- those so far and those that are left are all
abbrev pub invariant-loop-other : goal.invariant-loop-other
invariant-loop-other l = record {
  at_most : l.number ≤ l.other-index;
  counted : l.number + number_of_kind l.kind (drop l.other-index l.kinds) ≡ number_of_kind l.kind l.kinds;
}
