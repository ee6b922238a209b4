-- The lines of maps, piece by piece and one after another.
use Rattle.std.proofs.Common.{◌≡◌, refl, ap, ◌∙◌, ℕ, zero, suc, ◌+◌, List, [], ◌∷◌, ◌++◌, drop, append_assoc, add-one}
use Rattle.std.specs.Prelude.{Some, slice_get}
use Rattle.crystal_compare.specs.Maps.{AffineMap}
use Rattle.compare_text.specs.ComparisonText.{map_text, maps_text}

-- three parts, each with a comma, a sign, and LF
pub line_from_pieces : (old n1 n2 n3 n4 n5 n6 n7 n8 r1 r2 r3 s : List ℕ) →
    n1 ≡ old ++ r1 → n2 ≡ n1 ++ 44 ∷ [] → n3 ≡ n2 ++ r2 → n4 ≡ n3 ++ 44 ∷ [] → n5 ≡ n4 ++ r3 → n6 ≡ n5 ++ 44 ∷ [] → n7 ≡ n6 ++ s → n8 ≡ n7 ++ 10 ∷ [] →
    n8 ≡ old ++ (r1 ++ 44 ∷ [] ++ r2 ++ 44 ∷ [] ++ r3 ++ 44 ∷ [] ++ s ++ 10 ∷ [])
line_from_pieces old n1 n2 n3 n4 n5 n6 n7 n8 r1 r2 r3 s e1 e2 e3 e4 e5 e6 e7 e8 =
    e8 ∙ ap (λ z. z ++ 10 ∷ []) (e7 ∙ ap (λ z. z ++ s) (e6 ∙ ap (λ z. z ++ 44 ∷ []) (e5 ∙ ap (λ z. z ++ r3) (e4 ∙ ap (λ z. z ++ 44 ∷ []) (e3 ∙ ap (λ z. z ++ r2) (e2 ∙ ap (λ z. z ++ 44 ∷ []) e1))))))
    ∙ simp append_assoc

-- two pieces
pub two_pieces : (old n1 n2 r s : List ℕ) → n1 ≡ old ++ r → n2 ≡ n1 ++ s → n2 ≡ old ++ (r ++ s)
two_pieces old n1 n2 r s e f = f ∙ ap (λ z. z ++ s) e ∙ append_assoc old r s

-- three pieces
pub three_pieces : (old n1 n2 n3 r s t : List ℕ) → n1 ≡ old ++ r → n2 ≡ n1 ++ s → n3 ≡ n2 ++ t → n3 ≡ old ++ (r ++ s ++ t)
three_pieces old n1 n2 n3 r s t e f g = g ∙ ap (λ z. z ++ t) (two_pieces old n1 n2 r s e f) ∙ append_assoc old (r ++ s) t

-- ---- a list

-- the map at this place stands in front of those behind it
pub maps-drop : (maps : List AffineMap) (i : ℕ) (a : AffineMap) → slice_get maps i ≡ Some a → maps_text (drop i maps) ≡ map_text a ++ maps_text (drop (i + 1) maps)
maps-drop [] i a e = absurd (cc e)
maps-drop (b ∷ maps) zero a e = ap (λ (x : AffineMap). map_text x ++ maps_text maps) (some_is e)
  where
    some_is : {X : Type 0} {x y : X} → Some x ≡ Some y → x ≡ y
    some_is f = cc f
maps-drop (b ∷ maps) (suc i) a e = rw (add-one (suc i)) (maps-drop maps i a e ∙ rw (add-one i) refl)
