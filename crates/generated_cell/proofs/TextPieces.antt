-- The text, piece by piece.
use Rattle.std.proofs.Common.{◌≡◌, ℕ, List, [], ◌∷◌, ◌++◌, ap, ◌∙◌, append_assoc}
use Rattle.std.specs.Prelude.{codes}
use Rattle.generated_cell.specs.Generator.{draws}
use Rattle.generated_cell.specs.GeneratedText.{node, nodes, eighths, draw_at, moment_text, atom_line, text_of, generated_text}

-- The pieces of the line of an atom.
pub atom_from_pieces : (ds : List ℕ) (i j k d : ℕ) (old n1 n2 n3 n4 n5 n6 n7 n8 : List ℕ) →
    d ≡ draw_at ds (node i j k) → n1 ≡ old ++ codes "atom A " → n2 ≡ n1 ++ eighths i → n3 ≡ n2 ++ 32 ∷ [] → n4 ≡ n3 ++ eighths j → n5 ≡ n4 ++ 32 ∷ [] →
    n6 ≡ n5 ++ eighths k → n7 ≡ n6 ++ moment_text d → n8 ≡ n7 ++ 10 ∷ [] →
    n8 ≡ old ++ text_of ds (node i j k ∷ [])
unfolding atom_line text_of
atom_from_pieces ds i j k d old n1 n2 n3 n4 n5 n6 n7 n8 ed e1 e2 e3 e4 e5 e6 e7 e8 =
    rw (e8, e7, e6, e5, e4, e3, e2, e1, ed) (joined old (codes "atom A ") (eighths i) (eighths j) (eighths k) (moment_text (draw_at ds (node i j k))))
  where
    joined : (old a b d e m : List ℕ) → (((((((old ++ a) ++ b) ++ 32 ∷ []) ++ d) ++ 32 ∷ []) ++ e) ++ m) ++ 10 ∷ [] ≡ old ++ (((a ++ (b ++ 32 ∷ (d ++ 32 ∷ (e ++ m)))) ++ 10 ∷ []) ++ [])
    joined old a b d e m = simp append_assoc

-- The pieces of the text.
pub text_from_pieces : (seed : ℕ) (ds n1 n2 n3 : List ℕ) → ds ≡ draws 8 seed → n1 ≡ codes "magcell 1\nmetric 64 64 64 0 0 0\n" → n2 ≡ n1 ++ text_of ds nodes → n3 ≡ n2 ++ codes "end\n" → n3 ≡ generated_text seed
unfolding generated_text
text_from_pieces seed ds n1 n2 n3 drawn e1 e2 e3 =
    e3 ∙ ap (λ (z : List ℕ). z ++ codes "end\n") (e2 ∙ ap (λ (z : List ℕ). z ++ text_of ds nodes) e1 ∙ ap (λ (z : List ℕ). codes "magcell 1\nmetric 64 64 64 0 0 0\n" ++ text_of z nodes) drawn)
    ∙ append_assoc (codes "magcell 1\nmetric 64 64 64 0 0 0\n") (text_of (draws 8 seed) nodes) (codes "end\n")
