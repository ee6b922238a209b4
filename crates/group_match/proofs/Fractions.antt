-- Fractions below 1 with a denominator of up to 10^12 are values of the type.
use Rattle.std.proofs.Common.{◌≡◌, sym, subst, ◌^◌, ℤ, pos, negsuc, ◌≤ℤ◌, ◌<ℤ◌, unsigned_abs, arith}
use Rattle.std.proofs.lemmas.Int.{ints}
use Rattle.ring.specs.Size.{AtMost}
use Rattle.numbers.specs.Gcd.{gcd}
use Rattle.numbers.specs.Fraction.{lowest, quotient}
use Rattle.numbers.proofs.FractionLemmas.{quotient-positive}
use Rattle.exact_num.specs.Small.{IsSmall}
use Rattle.exact_num.proofs.FracLemmas.{part-size}

den_positive : (num den : ℤ) → pos 0 ≤ℤ num → num <ℤ den → pos 0 <ℤ den
den_positive num den h k = omega (arith, ints, h, k)

pub den_nonzero : (num den : ℤ) → pos 0 ≤ℤ num → num <ℤ den → den ≡ pos 0 → ⊥
den_nonzero num den h k e = omega (arith, ints, h, k, e)

pub quotient_lowest : (num den : ℤ) → pos 0 ≤ℤ num → num <ℤ den → quotient num den ≡ lowest num den
quotient_lowest num den h k = quotient-positive num den (den_positive num den h k)

num_size : (num den : ℤ) → pos 0 ≤ℤ num → num <ℤ den → AtMost (10 ^ 12) den → AtMost (10 ^ 24) num
num_size (pos n) den h k a = record { size = omega (arith, ints, k, a.size) }
num_size (negsuc n) den h k a = absurd h.le

small_lowest : (num den : ℤ) → AtMost (10 ^ 24) num → AtMost (10 ^ 12) den → IsSmall (lowest num den)
unfolding lowest
small_lowest num den a b = record { upper = part-size num (gcd (unsigned_abs num) (unsigned_abs den)) a; lower = part-size den (gcd (unsigned_abs num) (unsigned_abs den)) b }

pub small_quotient : (num den : ℤ) → pos 0 ≤ℤ num → num <ℤ den → AtMost (10 ^ 12) den → IsSmall (quotient num den)
small_quotient num den h k a = subst IsSmall (sym (quotient_lowest num den h k)) (small_lowest num den (num_size num den h k a) a)
