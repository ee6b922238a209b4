use Rattle.group_match.specs.Tasks.{IsNoneBefore}
use Rattle.group_match.proofs.search.map_in_block.Given as goal

-- none of the class so far carries
abbrev pub invariant-loop-number : goal.invariant-loop-number
invariant-loop-number l = IsNoneBefore l.symbol.operations l.found.n l.found.operations l.back l.number
