use Rattle.std.proofs.Common.{◌≡◌, drop}
use Rattle.match_text.specs.MatchText.{has_match}
use Rattle.match_text.proofs.matches.has_match.Given as goal

-- no row so far has a map
abbrev pub invariant-loop-i : goal.invariant-loop-i
invariant-loop-i l = has_match (drop l.i l.maps) ≡ has_match l.maps
