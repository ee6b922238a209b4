use Rattle.std.proofs.Common.{sym, ap, ◌∙◌, ℕ, List, ◌+◌, ◌++◌, drop, append_assoc}
use Rattle.crystal_compare.specs.Lists.{map_of}
use Rattle.compare_text.specs.ComparisonText.{map_text, maps_text}
use Rattle.compare_text.proofs.Lines.{maps-drop}
use Rattle.compare_text.proofs.comparison.push_maps.Goals as goal

-- the line of this map, and those of the maps behind it
pub loop-i-preserved : goal.loop-i-preserved
loop-i-preserved c =
    let i = c.loop-i.i in
    let out = c.loop-i.out in
    let a = map_of c.at.result.now in
    let rest = maps_text (drop (i + 1) c.args.maps.now) in
    ap (λ (o : List ℕ). o ++ rest) c.in_ok-push_map.ensures
    ∙ append_assoc out (map_text a) rest
    ∙ ap (λ (text : List ℕ). out ++ text) (sym (maps-drop c.args.maps.now i a c.at.ensures))
    ∙ c.loop-i.invariant
