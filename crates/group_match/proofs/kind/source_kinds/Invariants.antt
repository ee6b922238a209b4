use Rattle.std.proofs.Common.{◌≡◌, take, map}
use Rattle.group_match.specs.Kinds.{kind_of_source}
use Rattle.group_match.proofs.kind.source_kinds.Given as goal

-- the kinds of the operations so far
abbrev pub invariant-loop-source : goal.invariant-loop-source
invariant-loop-source l = l.kinds.items ≡ map kind_of_source (take l.source-index l.sources)
