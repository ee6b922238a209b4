-- A quotient with its rest gives the nearest multiple: one more or one less where twice the rest is larger than the divisor.
use Rattle.std.proofs.Common.{◌≡◌, ℕ, ◌*◌, ◌^◌, ◌≤◌, ◌<◌, [], ◌∷◌, ℤ, pos, ◌+ℤ◌, ◌-ℤ◌, ◌*ℤ◌, neg_ℤ, unsigned_abs, ◌≤ℤ◌, ◌<ℤ◌, refl, arith, mul-le-mul}
use Rattle.std.proofs.lemmas.Int.{ints, unsigned_abs-mul}
use Rattle.ring.specs.Ring.{var, con, ◌:+◌, ◌:*◌, ◌:-◌}
use Rattle.ring.specs.Size.{AtMost}
use Rattle.ring.proofs.Sizes.{at_most_mul}
use Rattle.crystal_spec.proofs.Identities.{by_integers}
use Rattle.lattice_spec.specs.Niggli.{size, twice}

two_small : AtMost 2 (pos 2)
two_small = record { size = omega arith }

-- the double has twice the size
pub at_most_twice : {n : ℕ} {x : ℤ} → AtMost n x → AtMost (2 * n) (twice x)
at_most_twice h = at_most_mul two_small h

at_least : (q a : ℕ) → 0 < a → q ≤ q * a
at_least q a h = grind (arith, mul-le-mul)

-- the quotient is small
pub quotient_small : (q a r x : ℤ) → pos 0 <ℤ a → AtMost (10 ^ 20) a → AtMost (10 ^ 20) x → q *ℤ a +ℤ r ≡ x → size r <ℤ a → AtMost (10 ^ 21) q
quotient_small q a r x p ha hx e h =
    let t : unsigned_abs (q *ℤ a) ≤ 2 * 10 ^ 20 = product_small (q *ℤ a) r x a e h hx.size ha.size in
    let u : unsigned_abs (q *ℤ a) ≡ unsigned_abs q * unsigned_abs a = unsigned_abs-mul q a in
    let v : 0 < unsigned_abs a = omega (arith, ints, p) in
    let w = at_least (unsigned_abs q) (unsigned_abs a) v in
    record { size = omega (arith, t, u, w) }
  where
    product_small : (m r x a : ℤ) → m +ℤ r ≡ x → size r <ℤ a → unsigned_abs x ≤ 10 ^ 20 → unsigned_abs a ≤ 10 ^ 20 → unsigned_abs m ≤ 2 * 10 ^ 20
    product_small m r x a e h k l = omega (arith, ints, e, h, k, l)

one_more : (q a : ℤ) → (q +ℤ pos 1) *ℤ a ≡ q *ℤ a +ℤ a
one_more q a = by_integers (q ∷ a ∷ []) ((var 0 :+ con (pos 1)) :* var 1) (var 0 :* var 1 :+ var 1) refl

one_less : (q a : ℤ) → (q -ℤ pos 1) *ℤ a ≡ q *ℤ a -ℤ a
one_less q a = by_integers (q ∷ a ∷ []) ((var 0 :- con (pos 1)) :* var 1) (var 0 :* var 1 :- var 1) refl

-- rounded up
pub rounded_up : (q a r x : ℤ) → q *ℤ a +ℤ r ≡ x → size r <ℤ a → a <ℤ twice r → size (twice (x +ℤ neg_ℤ ((q +ℤ pos 1) *ℤ a))) ≤ℤ a
rounded_up q a r x e h k = rw (one_more q a) (near (q *ℤ a) a r x e h k)
  where
    near : (m a r x : ℤ) → m +ℤ r ≡ x → size r <ℤ a → a <ℤ twice r → size (twice (x +ℤ neg_ℤ (m +ℤ a))) ≤ℤ a
    near m a r x e h k = omega (arith, ints, e, h, k)

-- rounded down
pub rounded_down : (q a r x : ℤ) → q *ℤ a +ℤ r ≡ x → size r <ℤ a → twice r <ℤ neg_ℤ a → size (twice (x +ℤ neg_ℤ ((q -ℤ pos 1) *ℤ a))) ≤ℤ a
rounded_down q a r x e h k = rw (one_less q a) (near (q *ℤ a) a r x e h k)
  where
    near : (m a r x : ℤ) → m +ℤ r ≡ x → size r <ℤ a → twice r <ℤ neg_ℤ a → size (twice (x +ℤ neg_ℤ (m -ℤ a))) ≤ℤ a
    near m a r x e h k = omega (arith, ints, e, h, k)

-- left as it is
pub not_rounded : (q a r x : ℤ) → q *ℤ a +ℤ r ≡ x → twice r ≤ℤ a → neg_ℤ a ≤ℤ twice r → size (twice (x +ℤ neg_ℤ (q *ℤ a))) ≤ℤ a
not_rounded q a r x e h k = near (q *ℤ a) a r x e h k
  where
    near : (m a r x : ℤ) → m +ℤ r ≡ x → twice r ≤ℤ a → neg_ℤ a ≤ℤ twice r → size (twice (x +ℤ neg_ℤ m)) ≤ℤ a
    near m a r x e h k = omega (arith, ints, e, h, k)
