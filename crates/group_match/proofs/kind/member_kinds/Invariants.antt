use Rattle.std.proofs.Common.{◌≡◌, take, map}
use Rattle.group_match.specs.Kinds.{kind_of_member}
use Rattle.group_match.proofs.kind.member_kinds.Given as goal

-- the kinds of the members so far
abbrev pub invariant-loop-op : goal.invariant-loop-op
invariant-loop-op l = l.kinds.items ≡ map kind_of_member (take l.op-index l.ops)
