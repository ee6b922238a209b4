-- A reduced cell is not flat: 2 det(G) ≥ A B C under the main conditions.
--
-- Let h = det(G), and let x, y, z be ξ, η, ζ, twice the scalar products. Then F = 2 (2h - A B C) is
-- 2 A B C + x y z - A x² - B y² - C z². Each form of a cell has an identity that writes F as a sum of products none of whose
-- factors is negative:
--   where x, y, z ≥ 0, the factors are those three, A, B, C, B - x, A - y, A - z, B - A and C - B;
--   where none is positive, with sizes s, t, u: if t + u ≤ A, the same and A - t - u;
--   if t + u ≥ A, the same, t + u - A and A + B - s - t - u, which the rule of the sum makes not negative.
use Rattle.std.proofs.Common.{◌≡◌, inl, inr, List, [], ◌∷◌, ℤ, pos, ◌+ℤ◌, neg_ℤ, ◌≤ℤ◌, refl, arith}
use Rattle.std.proofs.lemmas.Int.{ints}
use Rattle.ring.specs.Ring.{Ops, int_ops, Expr, var, con, opposite, quoted, ◌:*◌}
use Rattle.ring.proofs.Solving.{by_ring}
use Rattle.ring.proofs.IntRing.{int_laws}
use Rattle.ring.proofs.IntOrder.{sub_nonneg, weaken_lt}
use Rattle.matrix3.specs.Matrices.{determinant}
use Rattle.lattice_spec.specs.Tensor.{Tensor, tensor_matrix}
use Rattle.lattice_spec.specs.Niggli.{MainConditions}
use Rattle.lattice_spec.proofs.Order.{nonneg_is, signs, half_nonneg, sums}
use Rattle.lattice_spec.proofs.Limits.{IsReduced, ObtuseLimits, Limits, limits}

module _ {R : Type 0} (o : Ops R) where
  open o use {◌⊕◌, ◌⊗◌, opp, int}

  abbrev minus : R → R → R
  minus a b = a ⊕ opp b

  -- F
  abbrev room : R → R → R → R → R → R → R
  room a b c x y z =
      int (pos 2) ⊗ (a ⊗ b ⊗ c) ⊕ x ⊗ y ⊗ z ⊕ opp (a ⊗ x ⊗ x) ⊕ opp (b ⊗ y ⊗ y) ⊕ opp (c ⊗ z ⊗ z)

  -- F where x, y and z are at least 0
  abbrev room_acute : R → R → R → R → R → R → R
  room_acute a b c x y z =
      a ⊗ (x ⊗ minus b x) ⊕ b ⊗ (y ⊗ minus a y) ⊕ c ⊗ (z ⊗ minus a z) ⊕ minus b x ⊗ (a ⊗ minus b a ⊕ a ⊗ minus a y ⊕ y ⊗ minus a z)
      ⊕ b ⊗ (minus a y ⊗ minus a z) ⊕ a ⊗ (minus c b ⊗ minus a z) ⊕ a ⊗ b ⊗ minus c b ⊕ a ⊗ c ⊗ minus b a

  -- F at the opposites of s, t and u
  abbrev room_obtuse : R → R → R → R → R → R → R
  room_obtuse a b c s t u = room a b c (opp s) (opp t) (opp u)

  -- the same, where t + u is at most A
  abbrev room_below : R → R → R → R → R → R → R
  room_below a b c s t u =
      let g = minus (minus a t) u in
      a ⊗ (s ⊗ minus b s) ⊕ minus b s ⊗ (a ⊗ b ⊕ t ⊗ u) ⊕ c ⊗ (u ⊗ minus a u) ⊕ a ⊗ (minus c b ⊗ minus a u) ⊕ a ⊗ b ⊗ minus c b ⊕ a ⊗ c ⊗ minus b a
      ⊕ g ⊗ (b ⊗ (a ⊕ t))

  -- where it is at least A
  abbrev room_above : R → R → R → R → R → R → R
  room_above a b c s t u =
      let f = minus (t ⊕ u) a in
      let k = minus (a ⊕ b) (s ⊕ t ⊕ u) in
      let v = minus a t in
      let w = minus a u in
      a ⊗ (s ⊗ k) ⊕ k ⊗ (a ⊗ b ⊕ v ⊗ w) ⊕ a ⊗ b ⊗ minus c b ⊕ a ⊗ c ⊗ minus b a ⊕ b ⊗ (v ⊗ f) ⊕ w ⊗ (a ⊗ minus c b ⊕ c ⊗ u) ⊕ f ⊗ (v ⊗ w)

acute_is : (a b c x y z : ℤ) → room int_ops a b c x y z ≡ room_acute int_ops a b c x y z
acute_is a b c x y z =
    by_ring int_ops int_laws (a ∷ b ∷ c ∷ x ∷ y ∷ z ∷ []) (room quoted (var 0) (var 1) (var 2) (var 3) (var 4) (var 5)) (room_acute quoted (var 0) (var 1) (var 2) (var 3) (var 4) (var 5)) refl

below_is : (a b c s t u : ℤ) → room_obtuse int_ops a b c s t u ≡ room_below int_ops a b c s t u
below_is a b c s t u =
    by_ring int_ops int_laws (a ∷ b ∷ c ∷ s ∷ t ∷ u ∷ []) (room_obtuse quoted (var 0) (var 1) (var 2) (var 3) (var 4) (var 5)) (room_below quoted (var 0) (var 1) (var 2) (var 3) (var 4) (var 5)) refl

above_is : (a b c s t u : ℤ) → room_obtuse int_ops a b c s t u ≡ room_above int_ops a b c s t u
above_is a b c s t u =
    by_ring int_ops int_laws (a ∷ b ∷ c ∷ s ∷ t ∷ u ∷ []) (room_obtuse quoted (var 0) (var 1) (var 2) (var 3) (var 4) (var 5)) (room_above quoted (var 0) (var 1) (var 2) (var 3) (var 4) (var 5)) refl

-- none of the factors is negative
acute_nonneg : (a b c x y z : ℤ) → pos 0 ≤ℤ a → pos 0 ≤ℤ b → pos 0 ≤ℤ c → pos 0 ≤ℤ x → pos 0 ≤ℤ y → pos 0 ≤ℤ z → pos 0 ≤ℤ minus int_ops b x → pos 0 ≤ℤ minus int_ops a y → pos 0 ≤ℤ minus int_ops a z → pos 0 ≤ℤ minus int_ops b a → pos 0 ≤ℤ minus int_ops c b → pos 0 ≤ℤ room int_ops a b c x y z
acute_nonneg a b c x y z ha hb hc hx hy hz bx ay az ba cb = nonneg_is _ _ (acute_is a b c x y z) (search sums depth 14 fits 3000)

below_nonneg : (a b c s t u : ℤ) → pos 0 ≤ℤ a → pos 0 ≤ℤ b → pos 0 ≤ℤ c → pos 0 ≤ℤ s → pos 0 ≤ℤ t → pos 0 ≤ℤ u → pos 0 ≤ℤ minus int_ops b s → pos 0 ≤ℤ minus int_ops a u → pos 0 ≤ℤ minus int_ops b a → pos 0 ≤ℤ minus int_ops c b → pos 0 ≤ℤ minus int_ops (minus int_ops a t) u → pos 0 ≤ℤ room_obtuse int_ops a b c s t u
below_nonneg a b c s t u ha hb hc hs ht hu bs au ba cb g = nonneg_is _ _ (below_is a b c s t u) (search sums depth 14 fits 3000)

above_nonneg : (a b c s t u : ℤ) → pos 0 ≤ℤ a → pos 0 ≤ℤ b → pos 0 ≤ℤ c → pos 0 ≤ℤ s → pos 0 ≤ℤ t → pos 0 ≤ℤ u → pos 0 ≤ℤ minus int_ops a t → pos 0 ≤ℤ minus int_ops a u → pos 0 ≤ℤ minus int_ops b a → pos 0 ≤ℤ minus int_ops c b → pos 0 ≤ℤ minus int_ops (t +ℤ u) a → pos 0 ≤ℤ minus int_ops (a +ℤ b) (s +ℤ t +ℤ u) → pos 0 ≤ℤ room_obtuse int_ops a b c s t u
above_nonneg a b c s t u ha hb hc hs ht hu at au ba cb f k = nonneg_is _ _ (above_is a b c s t u) (search sums depth 14 fits 3000)

-- F is not negative under the main conditions
room_nonneg : (a b c x y z : ℤ) → MainConditions a b c x y z → pos 0 ≤ℤ room int_ops a b c x y z
room_nonneg a b c x y z m =
    let l : Limits a b c x y z = limits m in
    let ha : pos 0 ≤ℤ a = omega (arith, ints, m.a_positive) in
    let hb : pos 0 ≤ℤ b = omega (arith, ints, m.a_positive, m.a_to_b) in
    let hc : pos 0 ≤ℤ c = omega (arith, ints, m.a_positive, m.a_to_b, m.b_to_c) in
    elim l.form [
      | inl p ↦ acute_nonneg a b c x y z ha hb hc (weaken_lt _ _ p.x_positive) (weaken_lt _ _ p.y_positive) (weaken_lt _ _ p.z_positive) (sub_nonneg _ _ l.x_high) (sub_nonneg _ _ l.y_high) (sub_nonneg _ _ l.z_high) (sub_nonneg _ _ m.a_to_b) (sub_nonneg _ _ m.b_to_c)
      | inr p ↦ two_cases ha hb hc l p
    ]
  where
    back : room int_ops a b c x y z ≡ room_obtuse int_ops a b c (neg_ℤ x) (neg_ℤ y) (neg_ℤ z)
    back =
        by_ring int_ops int_laws (a ∷ b ∷ c ∷ x ∷ y ∷ z ∷ []) (room quoted (var 0) (var 1) (var 2) (var 3) (var 4) (var 5)) (room_obtuse quoted (var 0) (var 1) (var 2) (opposite (var 3)) (opposite (var 4)) (opposite (var 5))) refl

    two_cases : pos 0 ≤ℤ a → pos 0 ≤ℤ b → pos 0 ≤ℤ c → Limits a b c x y z → ObtuseLimits a b x y z → pos 0 ≤ℤ room int_ops a b c x y z
    two_cases ha hb hc l p =
        let s : pos 0 ≤ℤ neg_ℤ x = omega (arith, ints, p.x_at_most_0) in
        let t : pos 0 ≤ℤ neg_ℤ y = omega (arith, ints, p.y_at_most_0) in
        let u : pos 0 ≤ℤ neg_ℤ z = omega (arith, ints, p.z_at_most_0) in
        let bs = sub_nonneg _ _ l.x_low in
        let at = sub_nonneg _ _ l.y_low in
        let au = sub_nonneg _ _ l.z_low in
        let ba = sub_nonneg _ _ m.a_to_b in
        let cb = sub_nonneg _ _ m.b_to_c in
        nonneg_is _ _ back (elim (signs (minus int_ops (minus int_ops a (neg_ℤ y)) (neg_ℤ z))) [
          | inl g ↦ below_nonneg a b c (neg_ℤ x) (neg_ℤ y) (neg_ℤ z) ha hb hc s t u bs au ba cb g
          | inr g ↦ above_nonneg a b c (neg_ℤ x) (neg_ℤ y) (neg_ℤ z) ha hb hc s t u at au ba cb (omega (arith, ints, g)) (sub_nonneg _ _ p.sum_of_opposites)
        ])

module _ {R : Type 0} (o : Ops R) where
  open o use {◌⊕◌, ◌⊗◌, opp, int}

  -- 2h - A B C
  abbrev pub height_over : Tensor R → R
  height_over s = int (pos 2) ⊗ determinant o (tensor_matrix s) ⊕ opp (s.aa ⊗ s.bb ⊗ s.cc)

  abbrev room_of : Tensor R → R
  room_of s =
      let d = λ (x : R). int (pos 2) ⊗ x in
      room o s.aa s.bb s.cc (d s.bc) (d s.ac) (d s.ab)

-- the metric tensor of the first six variables
abbrev pub tensor : Tensor Expr
tensor = record { aa = var 0; bb = var 1; cc = var 2; bc = var 3; ac = var 4; ab = var 5 }

-- its values
abbrev pub listed : Tensor ℤ → List ℤ
listed s = s.aa ∷ s.bb ∷ s.cc ∷ s.bc ∷ s.ac ∷ s.ab ∷ []

-- 2 det(G) is at least A B C
pub height_over_nonneg : (s : Tensor ℤ) → IsReduced s → pos 0 ≤ℤ height_over int_ops s
height_over_nonneg s m =
    half_nonneg _ (nonneg_is _ _ (by_ring int_ops int_laws (listed s) (con (pos 2) :* height_over quoted tensor) (room_of quoted tensor) refl) (room_nonneg _ _ _ _ _ _ m))
