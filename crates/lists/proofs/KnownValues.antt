-- The definitions at a few values.
use Rattle.std.proofs.Common.{◌≡◌, refl, ℕ, [], ◌∷◌, inl, inr}
use Rattle.std.specs.Ordering.{nat_cmp}
use Rattle.lists.specs.Increasing.{IsIncreasing, IsMember, IsDistinct, inserted}

-- 1, 3, 4 increase, without repeats, and 3 is one of them
one_three_four : IsIncreasing nat_cmp (1 ∷ 3 ∷ 4 ∷ [])
one_three_four = ((refl, (refl, tt)), ((refl, tt), (tt, tt)))

three_is_there : IsMember {X = ℕ} 3 (1 ∷ 3 ∷ 4 ∷ [])
three_is_there = inr (inl refl)

-- 2 goes between 1 and 3, and 3 is not put in again
two_put_in : inserted nat_cmp 2 (1 ∷ 3 ∷ 4 ∷ []) ≡ 1 ∷ 2 ∷ 3 ∷ 4 ∷ []
two_put_in = refl

three_put_in : inserted nat_cmp 3 (1 ∷ 3 ∷ 4 ∷ []) ≡ 1 ∷ 3 ∷ 4 ∷ []
three_put_in = refl

-- two equal elements are a repeat
repeated : IsDistinct {X = ℕ} (1 ∷ 1 ∷ []) → ⊥
repeated d = d.0 (inl refl)
