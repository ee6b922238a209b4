-- Squared lengths in a reduced basis: which vectors are short.
--
-- Let x, y, z be the coordinates of a vector and q its squared length. If a coordinate has size 2 or more, the box
-- (`Cauchy`) gives q ≥ 2 A, 2 B or 2 C. If z is 1 or -1, q is C and a gap (`Gap`); if z is 0 and y is 1 or -1, it is B and a
-- gap. The numbers s, t and u of the gap are ξ, η and ζ up to their signs, which the signs of x and y tell. In form I one of
-- them is at most 0 in every pattern; in form II one is, in all patterns but that of x, y ≥ 0, where s, t and u are the sizes
-- and their sum is at most A + B by the main conditions. So
--   least_c, least_b, least_a    q ≥ C where z ≠ 0; q ≥ B where z = 0 and y ≠ 0; q ≥ A where y = z = 0 and x ≠ 0
--   small_within_c, _b, _a       the coordinates are -1, 0 and 1 where q ≤ C, B or A, but for vectors along a, of which
--                                nothing more is known there
use Rattle.std.proofs.Common.{◌≡◌, ◌⊎◌, inl, inr, List, [], ◌∷◌, ℤ, pos, negsuc, ◌+ℤ◌, neg_ℤ, ◌≤ℤ◌, ◌<ℤ◌, refl, sym, subst, arith}
use Rattle.std.proofs.lemmas.Int.{ints}
use Rattle.ring.specs.Ring.{Ops, int_ops, var, opposite, quoted}
use Rattle.ring.proofs.Solving.{by_ring}
use Rattle.ring.proofs.IntRing.{int_laws}
use Rattle.ring.proofs.IntOrder.{lit_nonneg, weaken_lt, le_by_sub, sub_nonneg, ≤ℤ_trans}
use Rattle.lattice_spec.specs.Tensor.{Tensor, squared_length}
use Rattle.lattice_spec.specs.Niggli.{twice, MainConditions}
use Rattle.lattice_spec.proofs.Order.{nonneg_is, nonpos_is, le_is, sub_nonpos, signs, clash, Small, NonZero, Three, plus, none, less, three, two_or, one_of, small_of, small_neg, small_opposite, box_small, box_far}
use Rattle.lattice_spec.proofs.Limits.{IsReduced, limits}
use Rattle.lattice_spec.proofs.Height.{tensor, height_over_nonneg}
use Rattle.lattice_spec.proofs.Cauchy.{reduced_positive, box_x, box_y, box_z}
use Rattle.lattice_spec.proofs.Gap.{gap, Slack, gap_nonneg, gap_pos}

-- the four sign patterns, each with its sum rule
module _ (a b c x y z : ℤ) (m : MainConditions a b c x y z) where
  slack : (s t u : ℤ) → pos 0 ≤ℤ (b +ℤ neg_ℤ s) → pos 0 ≤ℤ (a +ℤ neg_ℤ t) → pos 0 ≤ℤ (a +ℤ neg_ℤ u) → pos 0 ≤ℤ (a +ℤ b +ℤ neg_ℤ (s +ℤ t +ℤ u)) → Slack a b s t u
  slack s t u h1 h2 h3 h4 = record { a_positive = m.a_positive; a_to_b = sub_nonneg _ _ m.a_to_b; s_to_b = h1; t_to_a = h2; u_to_a = h3; all = h4 }

  slack_pp : Slack a b (neg_ℤ x) (neg_ℤ y) (neg_ℤ z)
  slack_pp =
      slack (neg_ℤ x) (neg_ℤ y) (neg_ℤ z) (sub_nonneg _ _ (limits m).x_low) (sub_nonneg _ _ (limits m).y_low) (sub_nonneg _ _ (limits m).z_low) (elim (limits m).form [
        | inl p ↦ omega (arith, ints, m.a_positive, m.a_to_b, p.x_positive, p.y_positive, p.z_positive)
        | inr p ↦ omega (arith, ints, p.sum_of_opposites)
      ])

  slack_mp : Slack a b (neg_ℤ x) y z
  slack_mp =
      slack (neg_ℤ x) y z (sub_nonneg _ _ (limits m).x_low) (sub_nonneg _ _ (limits m).y_high) (sub_nonneg _ _ (limits m).z_high) (elim (limits m).form [
        | inl p ↦ omega (arith, ints, m.a_to_b, p.x_positive, (limits m).y_high, (limits m).z_high)
        | inr p ↦ omega (arith, ints, m.a_positive, (limits m).x_low, p.y_at_most_0, p.z_at_most_0)
      ])

  slack_pm : Slack a b x (neg_ℤ y) z
  slack_pm =
      slack x (neg_ℤ y) z (sub_nonneg _ _ (limits m).x_high) (sub_nonneg _ _ (limits m).y_low) (sub_nonneg _ _ (limits m).z_high) (elim (limits m).form [
        | inl p ↦ omega (arith, ints, m.a_to_b, p.y_positive, (limits m).x_high, (limits m).z_high)
        | inr p ↦ omega (arith, ints, m.a_positive, m.a_to_b, (limits m).y_low, p.x_at_most_0, p.z_at_most_0)
      ])

  slack_mm : Slack a b x y (neg_ℤ z)
  slack_mm =
      slack x y (neg_ℤ z) (sub_nonneg _ _ (limits m).x_high) (sub_nonneg _ _ (limits m).y_high) (sub_nonneg _ _ (limits m).z_low) (elim (limits m).form [
        | inl p ↦ omega (arith, ints, m.a_to_b, p.z_positive, (limits m).x_high, (limits m).y_high)
        | inr p ↦ omega (arith, ints, m.a_positive, m.a_to_b, (limits m).z_low, p.x_at_most_0, p.y_at_most_0)
      ])

  -- at z = 0 and y = 1
  slack_edge : (t : ℤ) → t ≤ℤ a → Slack a b (pos 0) t (pos 0)
  slack_edge t h =
      slack (pos 0) t (pos 0) (omega (arith, ints, m.a_positive, m.a_to_b)) (sub_nonneg _ _ h) (omega (arith, ints, m.a_positive)) (omega (arith, ints, m.a_positive, m.a_to_b, h))

-- one of two numbers is at least 2, or both are at most 1
near : (m k : ℤ) → ((pos 2 ≤ℤ m) ⊎ (pos 2 ≤ℤ k)) ⊎ ((m ≤ℤ pos 1) × (k ≤ℤ pos 1))
near m k =
    elim (two_or m) [
      | inl h ↦ inl (inl h)
      | inr h ↦ elim (two_or k) [ inl g ↦ inl (inr g) | inr g ↦ inr (h, g) ]
    ]

-- where the gap is not positive, both sizes are at most 1
gap_small : (a b s t u m k : ℤ) → Slack a b s t u → pos 0 ≤ℤ m → pos 0 ≤ℤ k → gap int_ops a b s t u m k ≤ℤ pos 0 → (m ≤ℤ pos 1) × (k ≤ℤ pos 1)
gap_small a b s t u m k w hm hk h =
    elim (near m k) [ inl far ↦ absurd (clash _ (gap_pos a b s t u m k w hm hk far) h) | inr n ↦ n ]

module _ {R : Type 0} (o : Ops R) where
  open o use {◌⊕◌, ◌⊗◌, opp, int}

  -- what the squared length of (x, y, 1) has over C
  abbrev pub rise : Tensor R → R → R → R
  rise s x y = squared_length o s x y (int (pos 1)) ⊕ opp s.cc

  -- what the squared length of (x, 1, 0) has over B
  abbrev pub edge : Tensor R → R → R
  edge s x = squared_length o s x (int (pos 1)) (int (pos 0)) ⊕ opp s.bb

  abbrev xi : Tensor R → R
  xi s = int (pos 2) ⊗ s.bc

  abbrev eta : Tensor R → R
  eta s = int (pos 2) ⊗ s.ac

  abbrev zeta : Tensor R → R
  zeta s = int (pos 2) ⊗ s.ab

  -- the same as gaps: p stands for a coordinate x or y that is at least 0, m for one that is at most 0
  abbrev rise_pp : Tensor R → R → R → R
  rise_pp s x y = gap o s.aa s.bb (opp (xi s)) (opp (eta s)) (opp (zeta s)) x y

  abbrev rise_mp : Tensor R → R → R → R
  rise_mp s x y = gap o s.aa s.bb (opp (xi s)) (eta s) (zeta s) (opp x) y

  abbrev rise_pm : Tensor R → R → R → R
  rise_pm s x y = gap o s.aa s.bb (xi s) (opp (eta s)) (zeta s) x (opp y)

  abbrev rise_mm : Tensor R → R → R → R
  rise_mm s x y = gap o s.aa s.bb (xi s) (eta s) (opp (zeta s)) (opp x) (opp y)

  abbrev edge_p : Tensor R → R → R
  edge_p s x = gap o s.aa s.bb (int (pos 0)) (opp (zeta s)) (int (pos 0)) x (int (pos 0))

  abbrev edge_m : Tensor R → R → R
  edge_m s x = gap o s.aa s.bb (int (pos 0)) (zeta s) (int (pos 0)) (opp x) (int (pos 0))

abbrev with2 : Tensor ℤ → ℤ → ℤ → List ℤ
with2 s x y = s.aa ∷ s.bb ∷ s.cc ∷ s.bc ∷ s.ac ∷ s.ab ∷ x ∷ y ∷ []

pp : (s : Tensor ℤ) (x y : ℤ) → rise int_ops s x y ≡ rise_pp int_ops s x y
pp s x y = by_ring int_ops int_laws (with2 s x y) (rise quoted tensor (var 6) (var 7)) (rise_pp quoted tensor (var 6) (var 7)) refl

mp : (s : Tensor ℤ) (x y : ℤ) → rise int_ops s x y ≡ rise_mp int_ops s x y
mp s x y = by_ring int_ops int_laws (with2 s x y) (rise quoted tensor (var 6) (var 7)) (rise_mp quoted tensor (var 6) (var 7)) refl

pm : (s : Tensor ℤ) (x y : ℤ) → rise int_ops s x y ≡ rise_pm int_ops s x y
pm s x y = by_ring int_ops int_laws (with2 s x y) (rise quoted tensor (var 6) (var 7)) (rise_pm quoted tensor (var 6) (var 7)) refl

mm : (s : Tensor ℤ) (x y : ℤ) → rise int_ops s x y ≡ rise_mm int_ops s x y
mm s x y = by_ring int_ops int_laws (with2 s x y) (rise quoted tensor (var 6) (var 7)) (rise_mm quoted tensor (var 6) (var 7)) refl

ep : (s : Tensor ℤ) (x : ℤ) → edge int_ops s x ≡ edge_p int_ops s x
ep s x = by_ring int_ops int_laws (with2 s x x) (edge quoted tensor (var 6)) (edge_p quoted tensor (var 6)) refl

em : (s : Tensor ℤ) (x : ℤ) → edge int_ops s x ≡ edge_m int_ops s x
em s x = by_ring int_ops int_laws (with2 s x x) (edge quoted tensor (var 6)) (edge_m quoted tensor (var 6)) refl

rise_nonneg : (s : Tensor ℤ) (x y : ℤ) → IsReduced s → pos 0 ≤ℤ rise int_ops s x y
rise_nonneg s x y m =
    elim (signs x) [
      | inl hx ↦ elim (signs y) [
        | inl hy ↦ nonneg_is _ _ (pp s x y) (gap_nonneg _ _ _ _ _ x y (slack_pp _ _ _ _ _ _ m) hx hy)
        | inr hy ↦ nonneg_is _ _ (pm s x y) (gap_nonneg _ _ _ _ _ x (neg_ℤ y) (slack_pm _ _ _ _ _ _ m) hx hy)
      ]
      | inr hx ↦ elim (signs y) [
        | inl hy ↦ nonneg_is _ _ (mp s x y) (gap_nonneg _ _ _ _ _ (neg_ℤ x) y (slack_mp _ _ _ _ _ _ m) hx hy)
        | inr hy ↦ nonneg_is _ _ (mm s x y) (gap_nonneg _ _ _ _ _ (neg_ℤ x) (neg_ℤ y) (slack_mm _ _ _ _ _ _ m) hx hy)
      ]
    ]

rise_small : (s : Tensor ℤ) (x y : ℤ) → IsReduced s → rise int_ops s x y ≤ℤ pos 0 → Small x × Small y
rise_small s x y m h =
    elim (signs x) [
      | inl hx ↦ elim (signs y) [
        | inl hy ↦ let g = gap_small _ _ _ _ _ x y (slack_pp _ _ _ _ _ _ m) hx hy (nonpos_is _ _ (pp s x y) h) in (small_of x hx g.0, small_of y hy g.1)
        | inr hy ↦ let g = gap_small _ _ _ _ _ x (neg_ℤ y) (slack_pm _ _ _ _ _ _ m) hx hy (nonpos_is _ _ (pm s x y) h) in (small_of x hx g.0, small_neg y hy g.1)
      ]
      | inr hx ↦ elim (signs y) [
        | inl hy ↦ let g = gap_small _ _ _ _ _ (neg_ℤ x) y (slack_mp _ _ _ _ _ _ m) hx hy (nonpos_is _ _ (mp s x y) h) in (small_neg x hx g.0, small_of y hy g.1)
        | inr hy ↦ let g = gap_small _ _ _ _ _ (neg_ℤ x) (neg_ℤ y) (slack_mm _ _ _ _ _ _ m) hx hy (nonpos_is _ _ (mm s x y) h) in (small_neg x hx g.0, small_neg y hy g.1)
      ]
    ]

edge_nonneg : (s : Tensor ℤ) (x : ℤ) → IsReduced s → pos 0 ≤ℤ edge int_ops s x
edge_nonneg s x m =
    elim (signs x) [
      | inl hx ↦ nonneg_is _ _ (ep s x) (gap_nonneg _ _ _ _ _ x (pos 0) (slack_edge _ _ _ _ _ _ m (neg_ℤ (twice s.ab)) (limits m).z_low) hx (lit_nonneg 0))
      | inr hx ↦ nonneg_is _ _ (em s x) (gap_nonneg _ _ _ _ _ (neg_ℤ x) (pos 0) (slack_edge _ _ _ _ _ _ m (twice s.ab) (limits m).z_high) hx (lit_nonneg 0))
    ]

edge_small : (s : Tensor ℤ) (x : ℤ) → IsReduced s → edge int_ops s x ≤ℤ pos 0 → Small x
edge_small s x m h =
    elim (signs x) [
      | inl hx ↦ small_of x hx (gap_small _ _ _ _ _ x (pos 0) (slack_edge _ _ _ _ _ _ m (neg_ℤ (twice s.ab)) (limits m).z_low) hx (lit_nonneg 0) (nonpos_is _ _ (ep s x) h)).0
      | inr hx ↦ small_neg x hx (gap_small _ _ _ _ _ (neg_ℤ x) (pos 0) (slack_edge _ _ _ _ _ _ m (twice s.ab) (limits m).z_high) hx (lit_nonneg 0) (nonpos_is _ _ (em s x) h)).0
    ]

-- the opposite of a vector has its squared length
opposite_length : (s : Tensor ℤ) (x y z : ℤ) → squared_length int_ops s x y z ≡ squared_length int_ops s (neg_ℤ x) (neg_ℤ y) (neg_ℤ z)
opposite_length s x y z =
    by_ring int_ops int_laws (s.aa ∷ s.bb ∷ s.cc ∷ s.bc ∷ s.ac ∷ s.ab ∷ x ∷ y ∷ z ∷ []) (squared_length quoted tensor (var 6) (var 7) (var 8)) (squared_length quoted tensor (opposite (var 6)) (opposite (var 7)) (opposite (var 8))) refl

-- positions in the order
c_pos : (s : Tensor ℤ) → IsReduced s → pos 0 <ℤ s.cc
c_pos s m = omega (arith, ints, m.a_positive, m.a_to_b, m.b_to_c)

b_pos : (s : Tensor ℤ) → IsReduced s → pos 0 <ℤ s.bb
b_pos s m = omega (arith, ints, m.a_positive, m.a_to_b)

-- C is the least squared length where z ≠ 0
pub least_c : (s : Tensor ℤ) (x y z : ℤ) → IsReduced s → NonZero z → s.cc ≤ℤ squared_length int_ops s x y z
least_c s x y z m h =
    elim (one_of z h) [
      | inl f ↦ box_far s.cc (squared_length int_ops s x y z) z (weaken_lt _ _ (c_pos s m)) (box_z s x y z (reduced_positive s m) (height_over_nonneg s m)) f
      | inr u ↦ elim u [
        | inl e ↦ subst (λ (w : ℤ). s.cc ≤ℤ squared_length int_ops s x y w) (sym e) (le_by_sub _ _ (rise_nonneg s x y m))
        | inr e ↦ subst (λ (w : ℤ). s.cc ≤ℤ squared_length int_ops s x y w) (sym e) (subst (λ (n : ℤ). s.cc ≤ℤ n) (sym (opposite_length s x y (negsuc 0))) (le_by_sub _ _ (rise_nonneg s (neg_ℤ x) (neg_ℤ y) m)))
      ]
    ]

-- B is the least squared length where z = 0 and y ≠ 0
pub least_b : (s : Tensor ℤ) (x y : ℤ) → IsReduced s → NonZero y → s.bb ≤ℤ squared_length int_ops s x y (pos 0)
least_b s x y m h =
    elim (one_of y h) [
      | inl f ↦ box_far s.bb (squared_length int_ops s x y (pos 0)) y (weaken_lt _ _ (b_pos s m)) (box_y s x y (pos 0) (reduced_positive s m) (height_over_nonneg s m)) f
      | inr u ↦ elim u [
        | inl e ↦ subst (λ (w : ℤ). s.bb ≤ℤ squared_length int_ops s x w (pos 0)) (sym e) (le_by_sub _ _ (edge_nonneg s x m))
        | inr e ↦ subst (λ (w : ℤ). s.bb ≤ℤ squared_length int_ops s x w (pos 0)) (sym e) (subst (λ (n : ℤ). s.bb ≤ℤ n) (sym (opposite_length s x (negsuc 0) (pos 0))) (le_by_sub _ _ (edge_nonneg s (neg_ℤ x) m)))
      ]
    ]

module _ {R : Type 0} (o : Ops R) where
  open o use {◌⊕◌, ◌⊗◌, opp, int}

  abbrev along : Tensor R → R → R
  along s x = squared_length o s x (int (pos 0)) (int (pos 0))

  abbrev unit_along : Tensor R → R → R
  unit_along s x = along s (int (pos 1))

-- A is the least squared length where y = z = 0 and x ≠ 0
pub least_a : (s : Tensor ℤ) (x : ℤ) → IsReduced s → NonZero x → s.aa ≤ℤ squared_length int_ops s x (pos 0) (pos 0)
least_a s x m h =
    elim (one_of x h) [
      | inl f ↦ box_far s.aa (squared_length int_ops s x (pos 0) (pos 0)) x (weaken_lt _ _ m.a_positive) (box_x s x (pos 0) (pos 0) (reduced_positive s m) (height_over_nonneg s m)) f
      | inr u ↦ elim u [
        | inl e ↦ subst (λ (w : ℤ). s.aa ≤ℤ squared_length int_ops s w (pos 0) (pos 0)) (sym e) unit
        | inr e ↦ subst (λ (w : ℤ). s.aa ≤ℤ squared_length int_ops s w (pos 0) (pos 0)) (sym e) (subst (λ (n : ℤ). s.aa ≤ℤ n) (sym (opposite_length s (negsuc 0) (pos 0) (pos 0))) unit)
      ]
    ]
  where
    unit : s.aa ≤ℤ squared_length int_ops s (pos 1) (pos 0) (pos 0)
    unit = le_is _ _ (by_ring int_ops int_laws (with2 s x x) (var 0) (unit_along quoted tensor (var 6)) refl)

-- z is small where the squared length q is at most C
pub small_z : (s : Tensor ℤ) (x y z : ℤ) → IsReduced s → squared_length int_ops s x y z ≤ℤ s.cc → Small z
small_z s x y z m h =
    box_small s.cc (squared_length int_ops s x y z) z (c_pos s m) (box_z s x y z (reduced_positive s m) (height_over_nonneg s m)) h

-- y is small where q is at most B
pub small_y : (s : Tensor ℤ) (x y z : ℤ) → IsReduced s → squared_length int_ops s x y z ≤ℤ s.bb → Small y
small_y s x y z m h =
    box_small s.bb (squared_length int_ops s x y z) y (b_pos s m) (box_y s x y z (reduced_positive s m) (height_over_nonneg s m)) h

-- x is small where q is at most A
pub small_x : (s : Tensor ℤ) (x y z : ℤ) → IsReduced s → squared_length int_ops s x y z ≤ℤ s.aa → Small x
small_x s x y z m h =
    box_small s.aa (squared_length int_ops s x y z) x m.a_positive (box_x s x y z (reduced_positive s m) (height_over_nonneg s m)) h

-- the three coordinates are -1, 0 or 1
pub record SmallColumn (x y z : ℤ) : Type 0 where
  pub first : Small x
  pub second : Small y
  pub third : Small z

-- with z = 1 or z = -1
level_small : (s : Tensor ℤ) (x y z : ℤ) → IsReduced s → squared_length int_ops s x y z ≤ℤ s.cc → (z ≡ pos 1) ⊎ (z ≡ negsuc 0) → Small x × Small y
level_small s x y z m h (inl e) =
    rise_small s x y m (sub_nonpos _ _ (subst (λ (w : ℤ). squared_length int_ops s x y w ≤ℤ s.cc) e h))
level_small s x y z m h (inr e) =
    let k : squared_length int_ops s (neg_ℤ x) (neg_ℤ y) (pos 1) ≤ℤ s.cc =
    subst (λ (n : ℤ). n ≤ℤ s.cc) (opposite_length s x y (negsuc 0)) (subst (λ (w : ℤ). squared_length int_ops s x y w ≤ℤ s.cc) e h) in
    let r = rise_small s (neg_ℤ x) (neg_ℤ y) m (sub_nonpos _ _ k) in
    (small_opposite x r.0, small_opposite y r.1)

-- with z = 0 and y = 1 or y = -1
floor_small : (s : Tensor ℤ) (x y : ℤ) → IsReduced s → squared_length int_ops s x y (pos 0) ≤ℤ s.bb → (y ≡ pos 1) ⊎ (y ≡ negsuc 0) → Small x
floor_small s x y m h (inl e) =
    edge_small s x m (sub_nonpos _ _ (subst (λ (w : ℤ). squared_length int_ops s x w (pos 0) ≤ℤ s.bb) e h))
floor_small s x y m h (inr e) =
    let k : squared_length int_ops s (neg_ℤ x) (pos 1) (pos 0) ≤ℤ s.bb =
    subst (λ (n : ℤ). n ≤ℤ s.bb) (opposite_length s x (negsuc 0) (pos 0)) (subst (λ (w : ℤ). squared_length int_ops s x w (pos 0) ≤ℤ s.bb) e h) in
    small_opposite x (edge_small s (neg_ℤ x) m (sub_nonpos _ _ k))

-- a vector of squared length at most B has small coordinates, but for x where y and z are 0
pub small_within_b : (s : Tensor ℤ) (x y z : ℤ) → IsReduced s → squared_length int_ops s x y z ≤ℤ s.bb → (y ≡ pos 0 → z ≡ pos 0 → Small x) → SmallColumn x y z
small_within_b s x y z m h only =
    let hz : Small z = small_z s x y z m (≤ℤ_trans _ _ _ h m.b_to_c) in
    let hy : Small y = small_y s x y z m h in
    record { first = at_z (three z hz) (three y hy); second = hy; third = hz }
  where
    level : (z ≡ pos 1) ⊎ (z ≡ negsuc 0) → Small x
    level e = (level_small s x y z m (≤ℤ_trans _ _ _ h m.b_to_c) e).0

    floor : z ≡ pos 0 → (y ≡ pos 1) ⊎ (y ≡ negsuc 0) → Small x
    floor e f = floor_small s x y m (subst (λ (w : ℤ). squared_length int_ops s x y w ≤ℤ s.bb) e h) f

    at_z : Three z → Three y → Small x
    at_z (plus e) v = level (inl e)
    at_z (less e) v = level (inr e)
    at_z (none e) (plus f) = floor e (inl f)
    at_z (none e) (none f) = only f e
    at_z (none e) (less f) = floor e (inr f)

-- one of squared length at most C too, where C is at most B if z is 0
pub small_within_c : (s : Tensor ℤ) (x y z : ℤ) → IsReduced s → squared_length int_ops s x y z ≤ℤ s.cc → (z ≡ pos 0 → s.cc ≤ℤ s.bb) → (y ≡ pos 0 → z ≡ pos 0 → Small x) → SmallColumn x y z
small_within_c s x y z m h flat only =
    let hz : Small z = small_z s x y z m h in
    by_z (three z hz) hz
  where
    level : Small z → (z ≡ pos 1) ⊎ (z ≡ negsuc 0) → SmallColumn x y z
    level hz e =
        let r = level_small s x y z m h e in
        record { first = r.0; second = r.1; third = hz }

    by_z : Three z → Small z → SmallColumn x y z
    by_z (plus e) hz = level hz (inl e)
    by_z (less e) hz = level hz (inr e)
    by_z (none e) hz = small_within_b s x y z m (≤ℤ_trans _ _ _ h (flat e)) only

-- a vector of squared length at most A has small coordinates
pub small_within_a : (s : Tensor ℤ) (x y z : ℤ) → IsReduced s → squared_length int_ops s x y z ≤ℤ s.aa → SmallColumn x y z
small_within_a s x y z m h =
    let hb : squared_length int_ops s x y z ≤ℤ s.bb = ≤ℤ_trans _ _ _ h m.a_to_b in
    record { first = small_x s x y z m h; second = small_y s x y z m hb; third = small_z s x y z m (≤ℤ_trans _ _ _ hb m.b_to_c) }
