-- Small facts on the order of the integers.
--   sums                          the ruleset for sums of products that are not negative, with d (d - 1) among them
--   nonneg_is, pos_is             the sign of a number from that of an equal one
--   half_nonneg, quarter_pos ..   a numeral as a factor goes
--   Small x, Far x, NonZero x     x is -1, 0 or 1; its size is at least 2; it is not 0
--   box_small, box_far            what 2n - c z² ≥ 0 says of z where n is at most c, and of n where z is far
use Rattle.std.proofs.Common.{◌≡◌, ◌⊎◌, inl, inr, zero, suc, [], ◌∷◌, ℤ, pos, negsuc, ◌+ℤ◌, ◌*ℤ◌, neg_ℤ, ◌≤ℤ◌, ◌<ℤ◌, refl, sym, ◌∙◌, ap, arith}
use Rattle.std.proofs.Math.IntN.{zero-*ℤ}
use Rattle.std.proofs.lemmas.Int.{ints}
use Rattle.ring.specs.Ring.{Ops, int_ops, var, quoted}
use Rattle.ring.proofs.Solving.{by_ring}
use Rattle.ring.proofs.IntRing.{int_laws}
use Rattle.ring.proofs.IntOrder.{mul_nonneg, sq_nonneg, add_nonneg, sub_nonneg, lit_nonneg, nonneg_of_mul, weaken_lt, le_by_sub}

-- the sign of a number is that of an equal one
pub nonneg_is : (x y : ℤ) → x ≡ y → pos 0 ≤ℤ y → pos 0 ≤ℤ x
nonneg_is x y e h = omega (arith, ints)

-- likewise where it is positive
pub pos_is : (x y : ℤ) → x ≡ y → pos 0 <ℤ y → pos 0 <ℤ x
pos_is x y e h = omega (arith, ints)

-- likewise where it is not positive
pub nonpos_is : (x y : ℤ) → x ≡ y → x ≤ℤ pos 0 → y ≤ℤ pos 0
nonpos_is x y e h = omega (arith, ints)

-- equal numbers are at most each other
pub le_is : (x y : ℤ) → x ≡ y → x ≤ℤ y
le_is x y e = omega (arith, ints)

-- a sum whose first term is positive and whose second is not negative is positive
pub add_pos : (a b : ℤ) → pos 0 <ℤ a → pos 0 ≤ℤ b → pos 0 <ℤ (a +ℤ b)
add_pos a b h k = omega (arith, ints)

-- x - y is not positive where x is at most y
pub sub_nonpos : (x y : ℤ) → x ≤ℤ y → (x +ℤ neg_ℤ y) ≤ℤ pos 0
sub_nonpos x y h = omega (arith, ints)

-- d (d - 1) is not negative, for an integer d
pub pred_nonneg : (d : ℤ) → pos 0 ≤ℤ (d *ℤ (d +ℤ negsuc 0))
pred_nonneg (pos zero) = omega (arith, ints)
pred_nonneg (pos (suc n)) =
    mul_nonneg (pos (suc n)) (pos (suc n) +ℤ negsuc 0) (lit_nonneg (suc n)) (omega (arith, ints))
pred_nonneg (negsuc n) = omega (arith, ints)

-- a number or its opposite is not negative
pub signs : (x : ℤ) → (pos 0 ≤ℤ x) ⊎ (pos 0 ≤ℤ neg_ℤ x)
signs (pos n) = inl (omega (arith, ints))
signs (negsuc n) = inr (omega (arith, ints))

-- the factor 2 goes
pub half_nonneg : (x : ℤ) → pos 0 ≤ℤ (pos 2 *ℤ x) → pos 0 ≤ℤ x
half_nonneg x h = omega (arith, ints)

-- likewise where the product is positive
pub half_pos : (x : ℤ) → pos 0 <ℤ (pos 2 *ℤ x) → pos 0 <ℤ x
half_pos x h = omega (arith, ints)

-- likewise the factor 4
pub quarter_pos : (x : ℤ) → pos 0 <ℤ (pos 4 *ℤ x) → pos 0 <ℤ x
quarter_pos x h = omega (arith, ints)

-- what shows that a sum of products is not negative
pub ruleset sums = (mul_nonneg, add_nonneg, sq_nonneg, pred_nonneg, lit_nonneg)

-- a positive factor of a positive product goes
pub pos_of_mul : (a x : ℤ) → pos 0 <ℤ a → pos 0 <ℤ (a *ℤ x) → pos 0 <ℤ x
pos_of_mul a (pos zero) p h = absurd (omega (arith, ints, h))
pos_of_mul a (pos (suc n)) p h = omega (arith, ints)
pos_of_mul a (negsuc n) p h =
    let k : pos 0 ≤ℤ negsuc n = nonneg_of_mul a (negsuc n) p (weaken_lt _ _ h) in
    absurd k.le

-- no number is positive and not positive
pub clash : (x : ℤ) → pos 0 <ℤ x → x ≤ℤ pos 0 → ⊥
clash x h k = omega (arith, ints, h, k)

-- a product with 0 is 0
pub zero_times : (x y : ℤ) → x ≡ pos 0 → x *ℤ y ≡ pos 0
zero_times x y e = ap (λ (w : ℤ). w *ℤ y) e ∙ zero-*ℤ y

-- a number whose square is 1 is not 0
pub zero_not_unit : (d : ℤ) → d ≡ pos 0 → d *ℤ d ≡ pos 1 → ⊥
zero_not_unit d e one = zero_one (sym (zero_times d d e) ∙ one)
  where
    zero_one : pos 0 ≡ pos 1 → ⊥
    zero_one e = omega (arith, ints, e)

-- ---- small numbers and far ones

-- -1, 0 or 1
pub record Small (x : ℤ) : Type 0 where
  pub low : negsuc 0 ≤ℤ x
  pub high : x ≤ℤ pos 1

-- at least 1 one way or the other
pub record NonZero (x : ℤ) : Type 0 where
  pub sign : (pos 1 ≤ℤ x) ⊎ (x ≤ℤ negsuc 0)

-- at least 2 one way or the other
pub record Far (z : ℤ) : Type 0 where
  pub way : (pos 2 ≤ℤ z) ⊎ (pos 2 ≤ℤ neg_ℤ z)

-- which of the three it is
pub data Three (x : ℤ) : Type 0 where
  plus : x ≡ pos 1 → Three x
  none : x ≡ pos 0 → Three x
  less : x ≡ negsuc 0 → Three x

-- a number from 0 to 1 is small
pub small_of : (x : ℤ) → pos 0 ≤ℤ x → x ≤ℤ pos 1 → Small x
small_of x h k = record { low = omega (arith, ints, h); high = k }

-- so is one from -1 to 0
pub small_neg : (x : ℤ) → pos 0 ≤ℤ neg_ℤ x → neg_ℤ x ≤ℤ pos 1 → Small x
small_neg x h k = record { low = omega (arith, ints, k); high = omega (arith, ints, h) }

-- the opposite of a small number is small
pub small_opposite : (x : ℤ) → Small (neg_ℤ x) → Small x
small_opposite x h = record { low = omega (arith, ints, h.high); high = omega (arith, ints, h.low) }

-- a number is 0 or not
pub zero_or : (x : ℤ) → (x ≡ pos 0) ⊎ NonZero x
zero_or (pos zero) = inl refl
zero_or (pos (suc n)) = inr (record { sign = inl (omega (arith, ints)) })
zero_or (negsuc n) = inr (record { sign = inr (omega (arith, ints)) })

-- 0 is not nonzero
pub zero_not : (x : ℤ) → x ≡ pos 0 → NonZero x → ⊥
zero_not x e h = elim h.sign [ inl p ↦ omega (arith, ints, p, e) | inr p ↦ omega (arith, ints, p, e) ]

-- a small number is 1, 0 or -1
pub three : (x : ℤ) → Small x → Three x
three (pos zero) h = none refl
three (pos (suc zero)) h = plus refl
three (pos (suc (suc n))) h = absurd (omega (arith, ints, h.high))
three (negsuc zero) h = less refl
three (negsuc (suc n)) h = absurd (omega (arith, ints, h.low))

-- a number is small or far
pub small_or : (z : ℤ) → Small z ⊎ Far z
small_or (pos zero) = inl (record { low = omega (arith, ints); high = omega (arith, ints) })
small_or (pos (suc zero)) = inl (record { low = omega (arith, ints); high = omega (arith, ints) })
small_or (pos (suc (suc n))) = inr (record { way = inl (omega (arith, ints)) })
small_or (negsuc zero) = inl (record { low = omega (arith, ints); high = omega (arith, ints) })
small_or (negsuc (suc n)) = inr (record { way = inr (omega (arith, ints)) })

-- a number that is not 0 is far, 1 or -1
pub one_of : (z : ℤ) → NonZero z → Far z ⊎ ((z ≡ pos 1) ⊎ (z ≡ negsuc 0))
one_of z h =
    elim (small_or z) [
      | inl s ↦ elim (three z s) [ plus e ↦ inr (inl e) | none e ↦ absurd (zero_not z e h) | less e ↦ inr (inr e) ]
      | inr f ↦ inl f
    ]

-- a number is at least 2 or at most 1
pub two_or : (m : ℤ) → (pos 2 ≤ℤ m) ⊎ (m ≤ℤ pos 1)
two_or (pos zero) = inr (omega (arith, ints))
two_or (pos (suc zero)) = inr (omega (arith, ints))
two_or (pos (suc (suc n))) = inl (omega (arith, ints))
two_or (negsuc n) = inr (omega (arith, ints))

-- ---- the box 2n - c z² ≥ 0
module _ {R : Type 0} (o : Ops R) where
  open o use {◌⊕◌, ◌⊗◌, opp, int}

  -- c (2 - z²), which is (2n - c z²) + 2 (c - n)
  abbrev slack_left : R → R → R → R
  slack_left c n z = c ⊗ (int (pos 2) ⊕ opp (z ⊗ z))

  abbrev slack_right : R → R → R → R
  slack_right c n z = int (pos 2) ⊗ n ⊕ opp (c ⊗ (z ⊗ z)) ⊕ int (pos 2) ⊗ (c ⊕ opp n)

  -- 2 (n - c), which is (2n - c z²) + 2c + c (z² - 4)
  abbrev far_left : R → R → R → R
  far_left c n z = int (pos 2) ⊗ (n ⊕ opp c)

  abbrev far_right : R → R → R → R
  far_right c n z =
      int (pos 2) ⊗ n ⊕ opp (c ⊗ (z ⊗ z)) ⊕ (int (pos 2) ⊗ c ⊕ c ⊗ (z ⊗ z ⊕ opp (int (pos 4))))

  -- z² - 4, which is (z - 2) (z + 2) and (-z - 2) (-z + 2)
  abbrev square_less_four : R → R
  square_less_four z = z ⊗ z ⊕ opp (int (pos 4))

  abbrev as_product : R → R
  as_product z = (z ⊕ opp (int (pos 2))) ⊗ (z ⊕ int (pos 2))

  abbrev as_product_of_opposites : R → R
  as_product_of_opposites z = (opp z ⊕ opp (int (pos 2))) ⊗ (opp z ⊕ int (pos 2))

-- the square of a far number is at least 4
far_square : (z : ℤ) → Far z → pos 0 ≤ℤ square_less_four int_ops z
far_square z f =
    elim f.way [
      | inl h ↦ nonneg_is _ _ (by_ring int_ops int_laws (z ∷ []) (square_less_four quoted (var 0)) (as_product quoted (var 0)) refl) (mul_nonneg (z +ℤ neg_ℤ (pos 2)) (z +ℤ pos 2) (omega (arith, ints, h)) (omega (arith, ints, h)))
      | inr h ↦ nonneg_is _ _ (by_ring int_ops int_laws (z ∷ []) (square_less_four quoted (var 0)) (as_product_of_opposites quoted (var 0)) refl) (mul_nonneg (neg_ℤ z +ℤ neg_ℤ (pos 2)) (neg_ℤ z +ℤ pos 2) (omega (arith, ints, h)) (omega (arith, ints, h)))
    ]

-- z is small where n is at most c
pub box_small : (c n z : ℤ) → pos 0 <ℤ c → pos 0 ≤ℤ (pos 2 *ℤ n +ℤ neg_ℤ (c *ℤ (z *ℤ z))) → n ≤ℤ c → Small z
box_small c n z hc hb hn =
    let k : pos 0 ≤ℤ slack_right int_ops c n z = add_nonneg _ _ hb (mul_nonneg _ _ (lit_nonneg 2) (sub_nonneg _ _ hn)) in
    let r : pos 0 ≤ℤ (pos 2 +ℤ neg_ℤ (z *ℤ z)) = nonneg_of_mul c _ hc (nonneg_is _ _ (by_ring int_ops int_laws (c ∷ n ∷ z ∷ []) (slack_left quoted (var 0) (var 1) (var 2)) (slack_right quoted (var 0) (var 1) (var 2)) refl) k) in
    elim (small_or z) [ inl s ↦ s | inr f ↦ absurd (never (z *ℤ z) r (far_square z f)) ]
  where
    never : (q : ℤ) → pos 0 ≤ℤ (pos 2 +ℤ neg_ℤ q) → pos 0 ≤ℤ (q +ℤ neg_ℤ (pos 4)) → ⊥
    never q h k = omega (arith, ints, h, k)

-- n is at least c where z is far
pub box_far : (c n z : ℤ) → pos 0 ≤ℤ c → pos 0 ≤ℤ (pos 2 *ℤ n +ℤ neg_ℤ (c *ℤ (z *ℤ z))) → Far z → c ≤ℤ n
box_far c n z hc hb f =
    let k : pos 0 ≤ℤ far_right int_ops c n z = add_nonneg _ _ hb (add_nonneg _ _ (mul_nonneg _ _ (lit_nonneg 2) hc) (mul_nonneg _ _ hc (far_square z f))) in
    le_by_sub _ _ (half_nonneg _ (nonneg_is _ _ (by_ring int_ops int_laws (c ∷ n ∷ z ∷ []) (far_left quoted (var 0) (var 1) (var 2)) (far_right quoted (var 0) (var 1) (var 2)) refl) k))
