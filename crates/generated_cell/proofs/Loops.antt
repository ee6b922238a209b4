-- Loops over the numbers 0 to 7 that add lines.
use Rattle.std.proofs.Common.{◌≡◌, ℕ, suc, ◌+◌, ◌-◌, ◌<◌, ◌≤◌, List, [], ◌∷◌, ◌++◌, sym, ap, ◌∙◌, arith, append-nil, append_assoc}
use Rattle.std.specs.List.{flat_map, range_with_len}
use Rattle.std.proofs.lemmas.Grind.{flat_map-append}
use Rattle.generated_cell.specs.GeneratedText.{Node, atom_line, text_of}

-- what the numbers from k to 7 give
abbrev pub left : ℕ → (ℕ → List Node) → List Node
left k f = flat_map f (range_with_len k (8 - k))

left-step : (f : ℕ → List Node) (k : ℕ) → k < 8 → left k f ≡ f k ++ left (k + 1) f
left-step f k h =
    let one : 8 - k ≡ suc (8 - (k + 1)) = omega arith in
    ap (λ (n : ℕ). flat_map f (range_with_len k n)) one

left-none : (f : ℕ → List Node) (k : ℕ) → 8 ≤ k → left k f ≡ []
left-none f k h =
    let none : 8 - k ≡ 0 = omega arith in
    ap (λ (n : ℕ). flat_map f (range_with_len k n)) none

-- The lines that one number gives are added.
pub lines_more : (ds : List ℕ) (f : ℕ → List Node) (k : ℕ) (out old pushed : List ℕ) → k < 8 → out ++ text_of ds (left k f) ≡ old → pushed ≡ out ++ text_of ds (f k) → pushed ++ text_of ds (left (k + 1) f) ≡ old
unfolding text_of
lines_more ds f k out old pushed h so_far e =
    ap (λ (z : List ℕ). z ++ text_of ds (left (k + 1) f)) e
    ∙ append_assoc out (text_of ds (f k)) (text_of ds (left (k + 1) f))
    ∙ ap (λ (z : List ℕ). out ++ z) (sym (flat_map-append (λ (v : Node). atom_line ds v ++ 10 ∷ []) (f k) (left (k + 1) f)))
    ∙ ap (λ (vs : List Node). out ++ text_of ds vs) (sym (left-step f k h))
    ∙ so_far

-- Nothing is left.
pub lines_all : (ds : List ℕ) (f : ℕ → List Node) (k : ℕ) (out old : List ℕ) → 8 ≤ k → out ++ text_of ds (left k f) ≡ old → out ≡ old
unfolding text_of
lines_all ds f k out old h so_far =
    sym (append-nil out) ∙ ap (λ (vs : List Node). out ++ text_of ds vs) (sym (left-none f k h)) ∙ so_far
