-- Quotients, remainders and common divisors of integers, as the code finds them.
use Rattle.std.proofs.Common.{◌≡◌, ℕ, zero, suc, ◌/◌, ◌%◌, ℤ, pos, negsuc, ◌+ℤ◌, ◌*ℤ◌, ◌≤ℤ◌, ◌<ℤ◌, neg_ℤ, unsigned_abs, refl, sym, ◌∙◌, ap, arith}
use Rattle.std.specs.Int.RustNames.{int_div, int_rem}
use Rattle.std.proofs.lemmas.Int.{ints, quot-rem, unsigned_abs-mul}
use Rattle.std.proofs.Math.Nat.{mul-mod_left, mod-le, div-le_self}
use Rattle.std.proofs.Math.IntN.{+ℤ_comm, +ℤ_idl}
use Rattle.std.proofs.lemmas.Nat.Gcd.{IsGcd-from_mod, IsGcd-from_zero, same_from_IsGcd, le_of_dvd}
use Rattle.std.specs.Prelude.{Option, Some, true, ◌↔◌}
use Rattle.std.specs.Ordering.{int_cmp, is_le, is_some_and}
use Rattle.std.specs.declared.cmp.Ordering.{Ordering}
use Rattle.ring.specs.Size.{AtMost}
use Rattle.numbers.specs.Gcd.{gcd, lcm}
use Rattle.numbers.proofs.GcdLemmas.{gcd_is, gcd-positive}

-- what is at least 0 and not 0 is positive
pub above_zero : (z : ℤ) → pos 0 ≤ℤ z → (z ≡ pos 0 → ⊥) → pos 0 <ℤ z
above_zero (pos zero) up other = absurd (other refl)
above_zero (pos (suc n)) up other = omega (arith, ints)
above_zero (negsuc n) up other = absurd (omega (arith, ints))

-- the size of a remainder is the remainder of the sizes
pub rem-abs : (a d : ℤ) → unsigned_abs (int_rem a d) ≡ unsigned_abs a % unsigned_abs d
rem-abs (pos a) d = refl
rem-abs (negsuc a) d = omega (arith, ints)

-- a remainder has the sign of the dividend
pub rem_nonneg : (a d : ℤ) → pos 0 ≤ℤ a → pos 0 ≤ℤ int_rem a d
rem_nonneg (pos a) d h = omega (arith, ints)
rem_nonneg (negsuc a) d h = absurd (omega (arith, ints))

-- one step of Euclid's algorithm keeps the greatest common divisor
pub gcd-rem : (a d : ℤ) → gcd (unsigned_abs d) (unsigned_abs (int_rem a d)) ≡ gcd (unsigned_abs a) (unsigned_abs d)
gcd-rem a d =
    ap (gcd (unsigned_abs d)) (rem-abs a d) ∙ same_from_IsGcd (unsigned_abs a) (unsigned_abs d) _ _ (IsGcd-from_mod (unsigned_abs a) (unsigned_abs d) _ (gcd_is (unsigned_abs d) (unsigned_abs a % unsigned_abs d))) (gcd_is (unsigned_abs a) (unsigned_abs d))

-- and at its end the first number is the greatest common divisor
pub gcd-zero : (x y : ℤ) → pos 0 ≤ℤ x → y ≡ pos 0 → x ≡ pos (gcd (unsigned_abs x) (unsigned_abs y))
gcd-zero (pos a) y h e =
    ap pos (same_from_IsGcd a (unsigned_abs y) _ _ (IsGcd-from_zero a (unsigned_abs y) (ap unsigned_abs e)) (gcd_is a (unsigned_abs y)))
gcd-zero (negsuc a) y h e = absurd (omega (arith, ints))

-- a quotient with remainder 0 is exact
pub exact_division : (a d : ℤ) → int_rem a d ≡ pos 0 → int_div a d *ℤ d ≡ a
exact_division a d h =
    sym (+ℤ_comm (int_div a d *ℤ d) (pos 0) ∙ +ℤ_idl (int_div a d *ℤ d)) ∙ ap (λ r. int_div a d *ℤ d +ℤ r) (sym h) ∙ quot-rem a d

zero_of_abs : (z : ℤ) → unsigned_abs z ≡ 0 → z ≡ pos 0
zero_of_abs z h = omega (arith, ints)

-- a multiple has remainder 0
pub rem-multiple : (a d q : ℤ) → q *ℤ d ≡ a → int_rem a d ≡ pos 0
rem-multiple a d q h =
    zero_of_abs (int_rem a d) (rem-abs a d ∙ ap (λ n. n % unsigned_abs d) (ap unsigned_abs (sym h) ∙ unsigned_abs-mul q d) ∙ mul-mod_left (unsigned_abs q) (unsigned_abs d))

abs-neg : (z : ℤ) → unsigned_abs (neg_ℤ z) ≡ unsigned_abs z
abs-neg z = omega (arith, ints)

-- the size of a quotient is the quotient of the sizes
pub quot-abs : (a d : ℤ) → unsigned_abs (int_div a d) ≡ unsigned_abs a / unsigned_abs d
quot-abs (pos a) (pos d) = refl
quot-abs (pos a) (negsuc d) = abs-neg (pos (a / suc d))
quot-abs (negsuc a) (pos d) = abs-neg (pos (suc a / d))
quot-abs (negsuc a) (negsuc d) = refl

-- a quotient is no larger than its dividend
pub quot-size : {n : ℕ} (a d : ℤ) → AtMost n a → AtMost n (int_div a d)
quot-size a d h = record { size = omega (arith, quot-abs a d, div-le_self (unsigned_abs a) (unsigned_abs d), h.size) }

-- a remainder is no larger than its dividend
pub rem-size : {n : ℕ} (a d : ℤ) → AtMost n a → AtMost n (int_rem a d)
rem-size a d h = record { size = omega (arith, rem-abs a d, mod-le (unsigned_abs a) (unsigned_abs d), h.size) }

-- ---- common divisors and multiples of numbers that are at least 1

-- the greatest common divisor is positive
pub gcd_above : (a b : ℤ) → pos 1 ≤ℤ b → pos 0 <ℤ pos (gcd (unsigned_abs a) (unsigned_abs b))
gcd_above a b h =
    let g = gcd-positive (unsigned_abs a) (unsigned_abs b) (omega (arith, ints)) in
    omega (arith, ints)

-- and at most the first number
pub gcd_below : (a b : ℤ) → pos 1 ≤ℤ a → pos (gcd (unsigned_abs a) (unsigned_abs b)) ≤ℤ a
gcd_below (pos a) b h =
    let k = le_of_dvd (omega (arith, ints)) (gcd_is a (unsigned_abs b)).0 in
    omega (arith, ints)
gcd_below (negsuc a) b h = absurd (omega (arith, ints))

-- the least common multiple from the greatest common divisor
pub lcm_from : (a b g : ℤ) → pos 1 ≤ℤ a → pos 1 ≤ℤ b → g ≡ pos (gcd (unsigned_abs a) (unsigned_abs b)) → int_div a g *ℤ b ≡ pos (lcm (unsigned_abs a) (unsigned_abs b))
unfolding lcm
lcm_from (pos a) (pos b) g h k e = ap (λ z. int_div (pos a) z *ℤ pos b) e
lcm_from (pos a) (negsuc b) g h k e = absurd (omega (arith, ints))
lcm_from (negsuc a) b g h k e = absurd (omega (arith, ints))

-- ---- what `<=` on a type of integers says

-- `<=` is true exactly where the first integer is at most the second
pub le-order : (x y : ℤ) (r : Option Ordering) → r ≡ Some (int_cmp x y) → (is_some_and is_le r ≡ true) ↔ (x ≤ℤ y)
le-order x y r e = (λ h. up x y (sym (ap (is_some_and is_le) e) ∙ h), λ h. ap (is_some_and is_le) e ∙ down x y h)
  where
    up : (x y : ℤ) → is_le (int_cmp x y) ≡ true → x ≤ℤ y
    up x y h = grind (arith, ints)

    down : (x y : ℤ) → x ≤ℤ y → is_le (int_cmp x y) ≡ true
    down x y h = grind (arith, ints)
