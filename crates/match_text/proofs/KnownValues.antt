-- A text of maps, written by hand.
use Rattle.std.proofs.Common.{◌≡◌, ◌∷◌, [], refl}
use Rattle.std.specs.Prelude.{None, false}
use Rattle.match_text.specs.MatchText.{has_match}

-- no row is matched
none_matches : has_match (None ∷ None ∷ []) ≡ false
none_matches = refl
