-- Numbers that are drawn one by one.
use Rattle.std.proofs.Common.{◌≡◌, ℕ, suc, ◌+◌, ◌-◌, ◌<◌, ◌≤◌, List, [], ◌∷◌, ◌++◌, length, take, sym, ap, ◌∙◌, arith, append-nil, append_assoc}
use Rattle.std.proofs.Math.ListN.{set}
use Rattle.std.proofs.lemmas.List.{take_more_set, take_all}
use Rattle.generated_cell.specs.Generator.{next_state, draw_of, draws}

draws-step : (c s : ℕ) → c < 8 → draws (8 - c) s ≡ draw_of (next_state s) ∷ draws (8 - (c + 1)) (next_state s)
unfolding draws
draws-step c s h =
    let one : 8 - c ≡ suc (8 - (c + 1)) = omega arith in
    ap (λ (n : ℕ). draws n s) one

draws-none : (c s : ℕ) → 8 ≤ c → draws (8 - c) s ≡ []
unfolding draws
draws-none c s h =
    let none : 8 - c ≡ 0 = omega arith in
    ap (λ (n : ℕ). draws n s) none

-- One number more is drawn.
pub draws_more : (xs : List ℕ) (c s t v : ℕ) (all : List ℕ) → c < 8 → length xs ≡ 8 → take c xs ++ draws (8 - c) s ≡ all → t ≡ next_state s → v ≡ draw_of t → take (c + 1) (set xs c v) ++ draws (8 - (c + 1)) t ≡ all
draws_more xs c s t v all h count so_far et ev =
    ap (λ (z : List ℕ). z ++ draws (8 - (c + 1)) t) (take_more_set xs c v (omega (arith, h, count)))
    ∙ append_assoc (take c xs) (v ∷ []) (draws (8 - (c + 1)) t)
    ∙ ap (λ (w : ℕ). take c xs ++ w ∷ draws (8 - (c + 1)) t) ev
    ∙ ap (λ (u : ℕ). take c xs ++ draw_of u ∷ draws (8 - (c + 1)) u) et
    ∙ ap (λ (z : List ℕ). take c xs ++ z) (sym (draws-step c s h))
    ∙ so_far

-- All are drawn.
pub draws_all : (xs : List ℕ) (c s : ℕ) (all : List ℕ) → 8 ≤ c → length xs ≡ 8 → take c xs ++ draws (8 - c) s ≡ all → xs ≡ all
draws_all xs c s all h count so_far =
    sym (take_all c xs (omega (arith, h, count)))
    ∙ sym (append-nil (take c xs))
    ∙ ap (λ (z : List ℕ). take c xs ++ z) (sym (draws-none c s h))
    ∙ so_far
