-- What the squared length of a vector next to the plane of a and b has over C.
--
-- The squared length of x a + y b + c less C is A m² + B k² - s k - t m - u m k, where m and k are the sizes of x and y, and
-- s, t and u are ξ, η and ζ up to their signs. In every pattern of signs s ≤ B, t ≤ A, u ≤ A and s + t + u ≤ A + B
-- (`Norms`), and nothing else is used here. Let T(i, j) = i (i - 1) + j (j - 1) + i j.
--   k = m + d:  the gap is A T(m, d) + (A + B - s - t - u) m + (B - s) d + (A - u) (m (m - 1) + m d) + (B - A) k (k - 1)
--   m = k + e:  it is A T(k, e) + (A + B - s - t - u) k + (A - t) e + (A - u) (k (k - 1) + k e) + (B - A) k (k - 1)
-- For integers i, j ≥ 0 T is not negative; with n = i + j - 2 ≥ 0, 4 T = 4 + 8 n + 3 n² + (i - j)² is positive. So the gap
-- is not negative, and it is positive where m or k is at least 2.
use Rattle.std.proofs.Common.{◌≡◌, ◌⊎◌, inl, inr, [], ◌∷◌, ℤ, pos, negsuc, ◌+ℤ◌, neg_ℤ, ◌≤ℤ◌, ◌<ℤ◌, refl, subst, arith}
use Rattle.std.proofs.lemmas.Int.{ints}
use Rattle.ring.specs.Ring.{Ops, int_ops, var, quoted}
use Rattle.ring.proofs.Solving.{by_ring}
use Rattle.ring.proofs.IntRing.{int_laws}
use Rattle.ring.proofs.IntOrder.{mul_nonneg, sq_nonneg, add_nonneg, lit_nonneg, weaken_lt, mul_pos}
use Rattle.lattice_spec.proofs.Order.{nonneg_is, pos_is, add_pos, pred_nonneg, signs, quarter_pos}

module _ {R : Type 0} (o : Ops R) where
  open o use {◌⊕◌, ◌⊗◌, opp, int}

  abbrev minus : R → R → R
  minus a b = a ⊕ opp b

  -- the gap
  abbrev pub gap : R → R → R → R → R → R → R → R
  gap a b s t u m k = a ⊗ (m ⊗ m) ⊕ b ⊗ (k ⊗ k) ⊕ opp (s ⊗ k) ⊕ opp (t ⊗ m) ⊕ opp (u ⊗ (m ⊗ k))

  -- T(i, j)
  abbrev corner : R → R → R
  corner i j = i ⊗ (i ⊕ int (negsuc 0)) ⊕ j ⊗ (j ⊕ int (negsuc 0)) ⊕ i ⊗ j

  -- k = m + d
  abbrev gap_up : R → R → R → R → R → R → R → R
  gap_up a b s t u m d = gap a b s t u m (m ⊕ d)

  abbrev rest_up : R → R → R → R → R → R → R → R
  rest_up a b s t u m d =
      let k = m ⊕ d in
      minus (a ⊕ b) (s ⊕ t ⊕ u) ⊗ m ⊕ minus b s ⊗ d ⊕ minus a u ⊗ (m ⊗ (m ⊕ int (negsuc 0)) ⊕ m ⊗ d) ⊕ minus b a ⊗ (k ⊗ (k ⊕ int (negsuc 0)))

  abbrev up_is : R → R → R → R → R → R → R → R
  up_is a b s t u m d = a ⊗ corner m d ⊕ rest_up a b s t u m d

  -- m = k + e
  abbrev gap_down : R → R → R → R → R → R → R → R
  gap_down a b s t u k e = gap a b s t u (k ⊕ e) k

  abbrev rest_down : R → R → R → R → R → R → R → R
  rest_down a b s t u k e =
      minus (a ⊕ b) (s ⊕ t ⊕ u) ⊗ k ⊕ minus a t ⊗ e ⊕ minus a u ⊗ (k ⊗ (k ⊕ int (negsuc 0)) ⊕ k ⊗ e) ⊕ minus b a ⊗ (k ⊗ (k ⊕ int (negsuc 0)))

  abbrev down_is : R → R → R → R → R → R → R → R
  down_is a b s t u k e = a ⊗ corner k e ⊕ rest_down a b s t u k e

  -- 4 T(i, j), by n = i + j - 2
  abbrev four_corner : R → R → R
  four_corner i j = int (pos 4) ⊗ corner i j

  abbrev four_corner_is : R → R → R
  four_corner_is i j =
      let n = i ⊕ j ⊕ opp (int (pos 2)) in
      int (pos 4) ⊕ (int (pos 8) ⊗ n ⊕ int (pos 3) ⊗ (n ⊗ n) ⊕ minus i j ⊗ minus i j)

corner_nonneg : (i j : ℤ) → pos 0 ≤ℤ i → pos 0 ≤ℤ j → pos 0 ≤ℤ corner int_ops i j
corner_nonneg i j hi hj = add_nonneg _ _ (add_nonneg _ _ (pred_nonneg i) (pred_nonneg j)) (mul_nonneg _ _ hi hj)

corner_pos : (i j : ℤ) → pos 0 ≤ℤ (i +ℤ j +ℤ neg_ℤ (pos 2)) → pos 0 <ℤ corner int_ops i j
corner_pos i j h =
    let four : pos 0 <ℤ pos 4 = omega (arith, ints) in
    let k : pos 0 <ℤ four_corner_is int_ops i j =
    add_pos _ _ four (add_nonneg _ _ (add_nonneg _ _ (mul_nonneg _ _ (lit_nonneg 8) h) (mul_nonneg _ _ (lit_nonneg 3) (sq_nonneg _))) (sq_nonneg _)) in
    quarter_pos _ (pos_is _ _ (by_ring int_ops int_laws (i ∷ j ∷ []) (four_corner quoted (var 0) (var 1)) (four_corner_is quoted (var 0) (var 1)) refl) k)

-- how far s, t and u are from their bounds
pub record Slack (a b s t u : ℤ) : Type 0 where
  pub a_positive : pos 0 <ℤ a
  pub a_to_b : pos 0 ≤ℤ (b +ℤ neg_ℤ a)
  pub s_to_b : pos 0 ≤ℤ (b +ℤ neg_ℤ s)
  pub t_to_a : pos 0 ≤ℤ (a +ℤ neg_ℤ t)
  pub u_to_a : pos 0 ≤ℤ (a +ℤ neg_ℤ u)
  pub all : pos 0 ≤ℤ (a +ℤ b +ℤ neg_ℤ (s +ℤ t +ℤ u))

up : (a b s t u m d : ℤ) → gap_up int_ops a b s t u m d ≡ up_is int_ops a b s t u m d
up a b s t u m d =
    by_ring int_ops int_laws (a ∷ b ∷ s ∷ t ∷ u ∷ m ∷ d ∷ []) (gap_up quoted (var 0) (var 1) (var 2) (var 3) (var 4) (var 5) (var 6)) (up_is quoted (var 0) (var 1) (var 2) (var 3) (var 4) (var 5) (var 6)) refl

down : (a b s t u m d : ℤ) → gap_down int_ops a b s t u m d ≡ down_is int_ops a b s t u m d
down a b s t u m d =
    by_ring int_ops int_laws (a ∷ b ∷ s ∷ t ∷ u ∷ m ∷ d ∷ []) (gap_down quoted (var 0) (var 1) (var 2) (var 3) (var 4) (var 5) (var 6)) (down_is quoted (var 0) (var 1) (var 2) (var 3) (var 4) (var 5) (var 6)) refl

rest_up_nonneg : (a b s t u m d : ℤ) → Slack a b s t u → pos 0 ≤ℤ m → pos 0 ≤ℤ d → pos 0 ≤ℤ rest_up int_ops a b s t u m d
rest_up_nonneg a b s t u m d w hm hd =
    add_nonneg _ _ (add_nonneg _ _ (add_nonneg _ _ (mul_nonneg _ _ w.all hm) (mul_nonneg _ _ w.s_to_b hd)) (mul_nonneg _ _ w.u_to_a (add_nonneg _ _ (pred_nonneg m) (mul_nonneg _ _ hm hd)))) (mul_nonneg _ _ w.a_to_b (pred_nonneg (m +ℤ d)))

rest_down_nonneg : (a b s t u m d : ℤ) → Slack a b s t u → pos 0 ≤ℤ m → pos 0 ≤ℤ d → pos 0 ≤ℤ rest_down int_ops a b s t u m d
rest_down_nonneg a b s t u m d w hm hd =
    add_nonneg _ _ (add_nonneg _ _ (add_nonneg _ _ (mul_nonneg _ _ w.all hm) (mul_nonneg _ _ w.t_to_a hd)) (mul_nonneg _ _ w.u_to_a (add_nonneg _ _ (pred_nonneg m) (mul_nonneg _ _ hm hd)))) (mul_nonneg _ _ w.a_to_b (pred_nonneg m))

gap_up_nonneg : (a b s t u m d : ℤ) → Slack a b s t u → pos 0 ≤ℤ m → pos 0 ≤ℤ d → pos 0 ≤ℤ gap int_ops a b s t u m (m +ℤ d)
gap_up_nonneg a b s t u m d w hm hd =
    nonneg_is _ _ (up a b s t u m d) (add_nonneg _ _ (mul_nonneg _ _ (weaken_lt _ _ w.a_positive) (corner_nonneg m d hm hd)) (rest_up_nonneg a b s t u m d w hm hd))

gap_up_pos : (a b s t u m d : ℤ) → Slack a b s t u → pos 0 ≤ℤ m → pos 0 ≤ℤ d → pos 0 ≤ℤ (m +ℤ d +ℤ neg_ℤ (pos 2)) → pos 0 <ℤ gap int_ops a b s t u m (m +ℤ d)
gap_up_pos a b s t u m d w hm hd far =
    pos_is _ _ (up a b s t u m d) (add_pos _ _ (mul_pos _ _ w.a_positive (corner_pos m d far)) (rest_up_nonneg a b s t u m d w hm hd))

gap_down_nonneg : (a b s t u m d : ℤ) → Slack a b s t u → pos 0 ≤ℤ m → pos 0 ≤ℤ d → pos 0 ≤ℤ gap int_ops a b s t u (m +ℤ d) m
gap_down_nonneg a b s t u m d w hm hd =
    nonneg_is _ _ (down a b s t u m d) (add_nonneg _ _ (mul_nonneg _ _ (weaken_lt _ _ w.a_positive) (corner_nonneg m d hm hd)) (rest_down_nonneg a b s t u m d w hm hd))

gap_down_pos : (a b s t u m d : ℤ) → Slack a b s t u → pos 0 ≤ℤ m → pos 0 ≤ℤ d → pos 0 ≤ℤ (m +ℤ d +ℤ neg_ℤ (pos 2)) → pos 0 <ℤ gap int_ops a b s t u (m +ℤ d) m
gap_down_pos a b s t u m d w hm hd far =
    pos_is _ _ (down a b s t u m d) (add_pos _ _ (mul_pos _ _ w.a_positive (corner_pos m d far)) (rest_down_nonneg a b s t u m d w hm hd))

apart : (m k : ℤ) → m +ℤ (k +ℤ neg_ℤ m) ≡ k
apart m k = omega (arith, ints)

-- the gap is not negative
pub gap_nonneg : (a b s t u m k : ℤ) → Slack a b s t u → pos 0 ≤ℤ m → pos 0 ≤ℤ k → pos 0 ≤ℤ gap int_ops a b s t u m k
gap_nonneg a b s t u m k w hm hk =
    elim (signs (k +ℤ neg_ℤ m)) [
      | inl h ↦ subst (λ (n : ℤ). pos 0 ≤ℤ gap int_ops a b s t u m n) (apart m k) (gap_up_nonneg a b s t u m (k +ℤ neg_ℤ m) w hm h)
      | inr h ↦ subst (λ (n : ℤ). pos 0 ≤ℤ gap int_ops a b s t u n k) (apart k m) (gap_down_nonneg a b s t u k (m +ℤ neg_ℤ k) w hk (omega (arith, ints, h)))
    ]

-- it is positive where m or k is at least 2
pub gap_pos : (a b s t u m k : ℤ) → Slack a b s t u → pos 0 ≤ℤ m → pos 0 ≤ℤ k → (pos 2 ≤ℤ m) ⊎ (pos 2 ≤ℤ k) → pos 0 <ℤ gap int_ops a b s t u m k
gap_pos a b s t u m k w hm hk far =
    elim (signs (k +ℤ neg_ℤ m)) [
      | inl h ↦ subst (λ (n : ℤ). pos 0 <ℤ gap int_ops a b s t u m n) (apart m k) (gap_up_pos a b s t u m (k +ℤ neg_ℤ m) w hm h (far_of m k h far))
      | inr h ↦ subst (λ (n : ℤ). pos 0 <ℤ gap int_ops a b s t u n k) (apart k m) (gap_down_pos a b s t u k (m +ℤ neg_ℤ k) w hk (omega (arith, ints, h)) (far_of_down m k h far))
    ]
  where
    far_of : (m k : ℤ) → pos 0 ≤ℤ (k +ℤ neg_ℤ m) → (pos 2 ≤ℤ m) ⊎ (pos 2 ≤ℤ k) → pos 0 ≤ℤ (m +ℤ (k +ℤ neg_ℤ m) +ℤ neg_ℤ (pos 2))
    far_of m k h (inl p) = omega (arith, ints, h, p)
    far_of m k h (inr p) = omega (arith, ints, h, p)

    far_of_down : (m k : ℤ) → pos 0 ≤ℤ neg_ℤ (k +ℤ neg_ℤ m) → (pos 2 ≤ℤ m) ⊎ (pos 2 ≤ℤ k) → pos 0 ≤ℤ (k +ℤ (m +ℤ neg_ℤ k) +ℤ neg_ℤ (pos 2))
    far_of_down m k h (inl p) = omega (arith, ints, h, p)
    far_of_down m k h (inr p) = omega (arith, ints, h, p)
