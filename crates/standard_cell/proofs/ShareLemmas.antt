-- A numerator over a multiple of its denominator.
use Rattle.std.proofs.Common.{◌≡◌, ℕ, zero, suc, ◌*◌, ◌<◌, ◌≤◌, ℤ, pos, ◌*ℤ◌, ◌<ℤ◌, [], ◌∷◌, refl, sym, ap, ◌∙◌, arith}
use Rattle.std.specs.Prelude.{unsigned_abs}
use Rattle.std.proofs.lemmas.Int.{ints, unsigned_abs-mul}
use Rattle.ring.specs.Ring.{var, ◌:*◌}
use Rattle.ring.specs.Size.{AtMost}
use Rattle.crystal_spec.proofs.Identities.{by_integers}

-- the share is no larger than the whole
pub share_small : (n : ℕ) (share den parts : ℤ) → pos 0 <ℤ den → share *ℤ den ≡ parts → AtMost n parts → AtMost n share
share_small n share den parts above e a = record { size = by (unsigned_abs share) (unsigned_abs den) (unsigned_abs parts) (size den above) (sym (unsigned_abs-mul share den) ∙ ap unsigned_abs e) a.size }
  where
    size : (z : ℤ) → pos 0 <ℤ z → 0 < unsigned_abs z
    size z h = omega (arith, ints)

    by : (s d p : ℕ) → 0 < d → s * d ≡ p → p ≤ n → s ≤ n
    by s zero p h e l = absurd (omega (arith, h))
    by s (suc d) p h e l = omega (arith, e, l)

-- num (parts / den) over parts is num / den
pub share_is : (num share den parts : ℤ) → share *ℤ den ≡ parts → (num *ℤ share) *ℤ den ≡ num *ℤ parts
share_is num share den parts e = by_integers (num ∷ share ∷ den ∷ []) ((var 0 :* var 1) :* var 2) (var 0 :* (var 1 :* var 2)) refl ∙ ap (λ (z : ℤ). num *ℤ z) e
