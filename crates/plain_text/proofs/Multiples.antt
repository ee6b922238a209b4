-- Least common multiples of positive numbers, as they grow.
use Rattle.std.proofs.Common.{◌≡◌, ℕ, zero, suc, ◌*◌, ◌/◌, ◌<◌, ◌≤◌, refl, ap, ◌∙◌, arith, Option, Some, None, inl, inr}
use Rattle.std.specs.Prelude.{pos, ◌≤ℤ◌, ◌↔◌, IfSome, IsSome, MatchOption, unsigned_abs}
use Rattle.std.proofs.lemmas.Int.{ints}
use Rattle.std.proofs.lemmas.Bool.{cases_lt}
use Rattle.std.proofs.lemmas.Nat.Gcd.{le_of_dvd}
use Rattle.std.proofs.Math.Nat.{div-mul_cancel, mul-pos}
use Rattle.numbers.specs.Gcd.{gcd, lcm}
use Rattle.numbers.proofs.GcdLemmas.{gcd_is, lcm-multiple_left, lcm-multiple_right}
use Rattle.plain_text.specs.Views.{IsMultiple, Grown}

pub lcm-parts : (a b : ℕ) → lcm a b ≡ a / gcd a b * b
unfolding lcm
lcm-parts a b = refl

up : (q g b : ℕ) → q * g ≡ b → 0 < b → 0 < q
up zero g b e h = absurd (omega arith)
up (suc q) g b e h = omega arith

pub parts-positive : (a b : ℕ) → 0 < b → 0 < b / gcd a b
parts-positive a b h =
    let whole : b / gcd a b * gcd a b ≡ b = div-mul_cancel (gcd a b) (gcd_is a b).1 in
    up (b / gcd a b) (gcd a b) b whole h

pub lcm-positive : (a b : ℕ) → 0 < a → 0 < b → 0 < lcm a b
lcm-positive a b p q =
    let g = gcd a b in
    let whole : a / g * g ≡ a = div-mul_cancel g (gcd_is a b).0 in
    rw (lcm-parts a b) (mul-pos (up (a / g) g a whole p) q)

pub lcm-grows_left : (a b : ℕ) → 0 < a → 0 < b → a ≤ lcm a b
lcm-grows_left a b p q = le_of_dvd (lcm-positive a b p q) (lcm-multiple_left a b)

pub lcm-grows_right : (a b : ℕ) → 0 < a → 0 < b → b ≤ lcm a b
lcm-grows_right a b p q = le_of_dvd (lcm-positive a b p q) (lcm-multiple_right a b)

pub is_multiple : (a b m : ℕ) → 0 < a → 0 < b → m ≡ lcm a b → IsMultiple a b m
is_multiple a b m p q e = record {
  is = e;
  positive = rw e (lcm-positive a b p q);
  left = rw e (lcm-grows_left a b p q);
  right = rw e (lcm-grows_right a b p q);
}

-- three more denominators
pub grown_is : (d x y z one two m : ℕ) → IsMultiple d x one → IsMultiple one y two → IsMultiple two z m → Grown d x y z m
grown_is d x y z one two m f g h = record {
  is = h.is ∙ ap (λ (a : ℕ). lcm a z) (g.is ∙ ap (λ (a : ℕ). lcm a y) f.is);
  positive = h.positive;
  x_within = omega arith;
  y_within = omega arith;
  z_within = h.right;
}

pub past_one : (d x y z bound : ℕ) → 0 < d → 0 < x → 0 < y → 0 < z → bound < lcm d x → bound < lcm (lcm (lcm d x) y) z
past_one d x y z bound hd hx hy hz over =
    let one = lcm-positive d x hd hx in
    let two = lcm-positive (lcm d x) y one hy in
    omega (arith, lcm-grows_left (lcm d x) y one hy, lcm-grows_left (lcm (lcm d x) y) z two hz)

pub past_two : (d x y z one bound : ℕ) → 0 < y → 0 < z → IsMultiple d x one → bound < lcm one y → bound < lcm (lcm (lcm d x) y) z
past_two d x y z one bound hy hz f over =
    let two = lcm-positive one y f.positive hy in
    rw (← f.is) (omega (arith, lcm-grows_left (lcm one y) z two hz))

pub past_three : (d x y z one two bound : ℕ) → IsMultiple d x one → IsMultiple one y two → bound < lcm two z → bound < lcm (lcm (lcm d x) y) z
past_three d x y z one two bound f g over = rw (← f.is, ← g.is) over

-- the least common multiple within a bound, as the generic function finds it
pub found : (a b bound : ℕ) (r : Option ℕ) → 0 < a → 0 < b → IfSome r (λ m. pos m ≡ pos (lcm a b)) → IsSome r ↔ (pos (lcm a b) ≤ℤ pos bound) → MatchOption r (bound < lcm a b) (λ m. IsMultiple a b m × (m ≤ bound))
found a b bound None p q value exact = past (lcm a b) bound (λ h. absurd (cc (exact.1 h)))
  where
    past : (m bound : ℕ) → (pos m ≤ℤ pos bound → ⊥) → bound < m
    past m bound h = elim (cases_lt bound m) [ inl lt ↦ lt | inr le ↦ absurd (h (omega (arith, ints))) ]
found a b bound (Some m) p q value exact =
    let same : m ≡ lcm a b = ap unsigned_abs value in
    let below : pos (lcm a b) ≤ℤ pos bound = exact.0 refl in
    (is_multiple a b m p q same, omega (arith, ints, same))
