use Rattle.std.proofs.Common.{◌≡◌, ◌++◌, drop}
use Rattle.compare_text.specs.ComparisonText.{maps_text}
use Rattle.compare_text.proofs.comparison.push_maps.Given as goal

-- what is out, with the maps that are left, is the whole
abbrev pub invariant-loop-i : goal.invariant-loop-i
invariant-loop-i l = l.out ++ maps_text (drop l.i l.maps) ≡ l.fn.out ++ maps_text l.maps
