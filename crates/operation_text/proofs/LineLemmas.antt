-- A line, piece by piece.
use Rattle.std.proofs.Common.{◌≡◌, ap, ◌∙◌, ℕ, List, [], ◌∷◌, ◌++◌, append_assoc}

-- three parts, each with a comma, and a sign
pub parts_from_pieces : (old n1 n2 n3 n4 n5 n6 n7 r1 r2 r3 s : List ℕ) →
    n1 ≡ old ++ r1 → n2 ≡ n1 ++ 44 ∷ [] → n3 ≡ n2 ++ r2 → n4 ≡ n3 ++ 44 ∷ [] → n5 ≡ n4 ++ r3 → n6 ≡ n5 ++ 44 ∷ [] → n7 ≡ n6 ++ s →
    n7 ≡ old ++ (r1 ++ 44 ∷ [] ++ r2 ++ 44 ∷ [] ++ r3 ++ 44 ∷ [] ++ s)
parts_from_pieces old n1 n2 n3 n4 n5 n6 n7 r1 r2 r3 s e1 e2 e3 e4 e5 e6 e7 =
    e7 ∙ ap (λ z. z ++ s) (e6 ∙ ap (λ z. z ++ 44 ∷ []) (e5 ∙ ap (λ z. z ++ r3) (e4 ∙ ap (λ z. z ++ 44 ∷ []) (e3 ∙ ap (λ z. z ++ r2) (e2 ∙ ap (λ z. z ++ 44 ∷ []) e1)))))
    ∙ simp append_assoc

-- a text and the end of its line
pub line_from_pieces : (old n1 n2 text : List ℕ) → n1 ≡ old ++ text → n2 ≡ n1 ++ 10 ∷ [] → n2 ≡ old ++ (text ++ 10 ∷ [])
line_from_pieces old n1 n2 text e1 e2 = e2 ∙ ap (λ z. z ++ 10 ∷ []) e1 ∙ append_assoc old text (10 ∷ [])
