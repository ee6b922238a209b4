-- A linear congruential generator modulo 2^31.
--   next_state s   the state behind s
--   draw_of s      the number that the state s gives: 0, 1 or 2
--   draws n s      the first n numbers behind the state s
-- The multiplier and the increment are those of the example of `rand` in the C standard.
use Rattle.std.specs.Prelude.{ℕ, zero, suc, ◌+◌, ◌*◌, ◌/◌, ◌%◌, ◌^◌, List, [], ◌∷◌}

-- s · 1103515245 + 12345 modulo 2^31
abbrev pub next_state : ℕ → ℕ
next_state s = (s * 1103515245 + 12345) % 2 ^ 31

-- the bits of the state from 2^16 on, modulo 3
abbrev pub draw_of : ℕ → ℕ
draw_of s = s / 65536 % 3

-- the first n numbers that are drawn behind the state s
unfoldable pub draws : ℕ → ℕ → List ℕ
draws zero s = []
draws (suc n) s = draw_of (next_state s) ∷ draws n (next_state s)
