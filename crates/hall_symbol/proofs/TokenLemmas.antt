-- The mark `!` at the end of a token.
--   primed-none, primed-last      whether it is there
use Rattle.std.proofs.Common.{◌≡◌, ℕ, zero, suc, true, false, List, [], ◌∷◌, length, get_or, refl, ap, arith}
use Rattle.std.proofs.lemmas.Bool.{eq-eqb, ne_eqb}
use Rattle.hall_symbol.specs.TokenForms.{ends_primed}

pub primed-none : (p : List ℕ) → ((n : ℕ) → length p ≡ suc n → get_or p n 0 ≡ 33 → ⊥) → ends_primed p ≡ false
primed-none [] h = refl
primed-none (b ∷ []) h = ne_eqb b 33 (h 0 refl)
primed-none (b ∷ c ∷ p) h = primed-none (c ∷ p) (λ n len. h (suc n) (ap suc len))

pub primed-last : (p : List ℕ) (n : ℕ) → length p ≡ suc n → get_or p n 0 ≡ 33 → ends_primed p ≡ true
primed-last [] n len e = absurd (omega arith)
primed-last (b ∷ []) zero len e = eq-eqb b 33 e
primed-last (b ∷ []) (suc n) len e = absurd (omega arith)
primed-last (b ∷ c ∷ p) zero len e = absurd (omega arith)
primed-last (b ∷ c ∷ p) (suc n) len e = primed-last (c ∷ p) n (omega arith) e
