-- The rows of a table with their maps, one after another.
use Rattle.std.proofs.Common.{◌≡◌, refl, ap, ◌∙◌, ℕ, zero, suc, ◌+◌, true, false, List, [], ◌∷◌, ◌++◌, map, drop, add-one}
use Rattle.std.specs.Prelude.{Some, None, Option, slice_get, is_some}
use Rattle.hall_text.specs.declared.rows.Row.{Row}
use Rattle.group_match.specs.declared.map.Map.{Map}
use Rattle.match_text.specs.MatchText.{matched_text, rows_text, has_match}

-- the row number i with its map stands in front of those behind it
pub rows-drop : (rows : List Row) (maps : List (Option Map)) (i k : ℕ) (name : List ℕ) (m : Option Map) → slice_get (map (λ (r : Row). r.name) rows) i ≡ Some name → slice_get maps i ≡ Some m →
    rows_text k (drop i rows) (drop i maps) ≡ matched_text k name m ++ rows_text (k + 1) (drop (i + 1) rows) (drop (i + 1) maps)
rows-drop [] maps i k name m p q = absurd cc
rows-drop (row ∷ rows) [] i k name m p q = absurd cc
rows-drop (row ∷ rows) (o ∷ maps) zero k name m p q = (λ j. matched_text k (some_is p j) (some_is q j) ++ rows_text (k + 1) rows maps)
  where
    some_is : {X : Type 0} {a b : X} → Some a ≡ Some b → a ≡ b
    some_is e = cc
rows-drop (row ∷ rows) (o ∷ maps) (suc i) k name m p q = rw (add-one (suc i)) (rows-drop rows maps i k name m p q ∙ rw (add-one i) refl)

-- one element less in front
drop_more : {X : Type 0} (x : X) (xs : List X) (i : ℕ) → drop (suc i + 1) (x ∷ xs) ≡ drop (i + 1) xs
drop_more x xs i = rw (add-one (suc i)) (rw (add-one i) refl)

-- a map that is there is found, and one that isn't says nothing of those behind it
pub has_match-drop : (maps : List (Option Map)) (i : ℕ) (m : Option Map) → slice_get maps i ≡ Some m → is_some m ≡ false → has_match (drop (i + 1) maps) ≡ has_match (drop i maps)
has_match-drop [] i m p e = absurd cc
has_match-drop (Some o ∷ maps) zero m p e = absurd cc
has_match-drop (None ∷ maps) zero m p e = refl
has_match-drop (o ∷ maps) (suc i) m p e = ap has_match (drop_more o maps i) ∙ has_match-drop maps i m p e

pub has_match-here : (maps : List (Option Map)) (i : ℕ) (m : Option Map) → slice_get maps i ≡ Some m → is_some m ≡ true → has_match (drop i maps) ≡ true
has_match-here [] i m p e = absurd cc
has_match-here (Some o ∷ maps) zero m p e = refl
has_match-here (None ∷ maps) zero m p e = absurd cc
has_match-here (o ∷ maps) (suc i) m p e = has_match-here maps i m p e
