-- Least common multiples within a bound, as the generic function finds them.
use Rattle.std.proofs.Common.{◌≡◌, ℕ, zero, suc, ◌*◌, ◌/◌, ◌<◌, ◌≤◌, refl, ap, subst, sym, arith, Option, Some, None, inl, inr}
use Rattle.std.specs.Prelude.{pos, ◌≤ℤ◌, ◌↔◌, IfSome, IfNone, IsSome, unsigned_abs}
use Rattle.std.specs.Int.{◌∣◌}
use Rattle.std.proofs.lemmas.Int.{ints}
use Rattle.std.proofs.lemmas.Bool.{cases_lt}
use Rattle.std.proofs.lemmas.Nat.Gcd.{le_of_dvd}
use Rattle.std.proofs.Math.Nat.{div-mul_cancel, mul-pos}
use Rattle.numbers.specs.Gcd.{gcd, lcm, IsLcm}
use Rattle.numbers.proofs.GcdLemmas.{gcd_is, lcm_is}

up : (q g b : ℕ) → q * g ≡ b → 0 < b → 0 < q
up zero g b e h = absurd (omega (arith, e, h))
up (suc q) g b e h = omega arith

lcm-positive : (a b : ℕ) → 0 < a → 0 < b → 0 < lcm a b
unfolding lcm
lcm-positive a b p q = mul-pos (up (a / gcd a b) (gcd a b) a (div-mul_cancel (gcd a b) (gcd_is a b).0) p) q

pub found : (a b : ℕ) (r : Option ℕ) → 0 < b → IfSome r (λ m. pos m ≡ pos (lcm a b)) → IfSome r (λ m. IsLcm a b m)
found a b None h v = tt
found a b (Some m) h v = let same : m ≡ lcm a b = ap unsigned_abs v in subst (IsLcm a b) (sym same) (lcm_is a b h)

some_multiple : (a b m : ℕ) → 0 < a → 0 < b → m ≡ lcm a b → 0 < m
some_multiple a b m p q e = subst (λ (k : ℕ). 0 < k) (sym e) (lcm-positive a b p q)

pub positive : (a b : ℕ) (r : Option ℕ) → 0 < a → 0 < b → IfSome r (λ m. pos m ≡ pos (lcm a b)) → IfSome r (λ m. 0 < m)
positive a b None p q v = tt
positive a b (Some m) p q v = some_multiple a b m p q (ap unsigned_abs v)

pub within : (a b bound : ℕ) (r : Option ℕ) → IfSome r (λ m. pos m ≡ pos (lcm a b)) → IsSome r ↔ (pos (lcm a b) ≤ℤ pos bound) → IfSome r (λ m. m ≤ bound)
within a b bound None v exact = tt
within a b bound (Some m) v exact = let same : m ≡ lcm a b = ap unsigned_abs v in let below : pos (lcm a b) ≤ℤ pos bound = exact.0 refl in omega (arith, ints, same)

pub past : (a b bound : ℕ) (r : Option ℕ) → 0 < b → IsSome r ↔ (pos (lcm a b) ≤ℤ pos bound) → IfNone r ((k : ℕ) → 0 < k → a ∣ k → b ∣ k → bound < k)
past a b bound (Some m) h exact = tt
past a b bound None h exact = λ k above p q. (let least = le_of_dvd above ((lcm_is a b h).least k p q) in over (lcm a b) bound k least (λ l. absurd (cc (exact.1 l))))
  where
    over : (m bound k : ℕ) → m ≤ k → (pos m ≤ℤ pos bound → ⊥) → bound < k
    over m bound k l h = elim (cases_lt bound m) [ inl lt ↦ omega (arith, lt, l) | inr le ↦ absurd (h (omega (arith, ints))) ]
