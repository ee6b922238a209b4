-- Each coordinate of a vector is bounded by its squared length.
--
-- Let h = det(G), D = A·bb - ab² the minor of the first two axes, and q the squared length of the vector of coordinates
-- x, y, z. A positive metric tensor has A (D q - h z²) = D (aa x + ab y + ac z)² + (D y + (aa bc - ab ac) z)², so h z² ≤ D q
-- and 0 ≤ q. Exchanging axes keeps a metric tensor positive, so the same holds of x and y with their own minors. Under the
-- main conditions 2h ≥ A B C, and A B (2q - C z²) = 2 (D q - h z²) + (2h - A B C) z² + 2 ab² q, so C z² ≤ 2q; likewise
-- B y² ≤ 2q and A x² ≤ 2q.
use Rattle.std.proofs.Common.{List, [], ◌∷◌, ℤ, pos, ◌*ℤ◌, ◌≤ℤ◌, ◌<ℤ◌, refl, arith}
use Rattle.std.proofs.lemmas.Int.{ints}
use Rattle.ring.specs.Ring.{Ops, int_ops, var, quoted}
use Rattle.ring.proofs.Solving.{by_ring}
use Rattle.ring.proofs.IntRing.{int_laws}
use Rattle.ring.proofs.IntOrder.{mul_nonneg, sq_nonneg, add_nonneg, lit_nonneg, weaken_lt, nonneg_of_mul, mul_pos, sub_nonneg}
use Rattle.matrix3.specs.Matrices.{determinant}
use Rattle.crystal_spec.specs.Crystals.{IsPositive}
use Rattle.lattice_spec.specs.Tensor.{Tensor, tensor_matrix, squared_length}
use Rattle.lattice_spec.proofs.Order.{nonneg_is, pos_is, add_pos, half_pos, quarter_pos, pos_of_mul}
use Rattle.lattice_spec.proofs.Limits.{IsReduced, limits}
use Rattle.lattice_spec.proofs.Height.{height_over, tensor, listed, height_over_nonneg}

-- the three leading minors are positive
abbrev pub IsPositiveTensor : Tensor ℤ → Type 0
IsPositiveTensor s = IsPositive (tensor_matrix s)

-- ---- exchanged axes

-- the metric tensor of the axes a, c, b
abbrev pub with_b_and_c_exchanged : {R : Type 0} → Tensor R → Tensor R
with_b_and_c_exchanged s = record { aa = s.aa; bb = s.cc; cc = s.bb; bc = s.bc; ac = s.ab; ab = s.ac }

-- of the axes c, b, a
abbrev pub with_a_and_c_exchanged : {R : Type 0} → Tensor R → Tensor R
with_a_and_c_exchanged s = record { aa = s.cc; bb = s.bb; cc = s.aa; bc = s.ab; ac = s.ac; ab = s.bc }

-- of the axes b, a, c
abbrev pub with_a_and_b_exchanged : {R : Type 0} → Tensor R → Tensor R
with_a_and_b_exchanged s = record { aa = s.bb; bb = s.aa; cc = s.cc; bc = s.ac; ac = s.bc; ab = s.ab }

module _ {R : Type 0} (o : Ops R) where
  open o use {◌⊕◌, ◌⊗◌, opp}

  -- det(G)
  abbrev pub height : Tensor R → R
  height s = determinant o (tensor_matrix s)

  -- D
  abbrev minor_ab : Tensor R → R
  minor_ab s = s.aa ⊗ s.bb ⊕ opp (s.ab ⊗ s.ab)

  -- aa bc - ab ac
  abbrev minor_bc : Tensor R → R
  minor_bc s = s.aa ⊗ s.bc ⊕ opp (s.ab ⊗ s.ac)

  -- D times the minor of a and c is A h + (aa bc - ab ac)²
  abbrev minors_left : Tensor R → R
  minors_left s = minor_ab s ⊗ minor_ab (with_b_and_c_exchanged s)

  abbrev minors_right : Tensor R → R
  minors_right s = s.aa ⊗ height s ⊕ minor_bc s ⊗ minor_bc s

  -- A B = D + ab²
  abbrev edge_left : Tensor R → R
  edge_left s = s.aa ⊗ s.bb

  abbrev edge_right : Tensor R → R
  edge_right s = minor_ab s ⊕ s.ab ⊗ s.ab

-- the squared length of b is positive
pub bb_positive : (s : Tensor ℤ) → IsPositiveTensor s → pos 0 <ℤ s.bb
bb_positive s p =
    pos_of_mul s.aa s.bb p.first (pos_is _ _ (by_ring int_ops int_laws (listed s) (edge_left quoted tensor) (edge_right quoted tensor) refl) (add_pos _ _ p.second (sq_nonneg s.ab)))

-- exchanging axes keeps a metric tensor positive
b_and_c_exchanged : (s : Tensor ℤ) → IsPositiveTensor s → IsPositiveTensor (with_b_and_c_exchanged s)
b_and_c_exchanged s p =
    let j : pos 0 <ℤ minors_right int_ops s = add_pos _ _ (mul_pos _ _ p.first p.third) (sq_nonneg _) in
    record {
      first = p.first;
      second = pos_of_mul (minor_ab int_ops s) (minor_ab int_ops (with_b_and_c_exchanged s)) p.second (pos_is _ _ (by_ring int_ops int_laws (listed s) (minors_left quoted tensor) (minors_right quoted tensor) refl) j);
      third = pos_is _ _ (by_ring int_ops int_laws (listed s) (height quoted (with_b_and_c_exchanged tensor)) (height quoted tensor) refl) p.third;
    }

a_and_b_exchanged : (s : Tensor ℤ) → IsPositiveTensor s → IsPositiveTensor (with_a_and_b_exchanged s)
a_and_b_exchanged s p = record {
  first = bb_positive s p;
  second = pos_is _ _ (by_ring int_ops int_laws (listed s) (minor_ab quoted (with_a_and_b_exchanged tensor)) (minor_ab quoted tensor) refl) p.second;
  third = pos_is _ _ (by_ring int_ops int_laws (listed s) (height quoted (with_a_and_b_exchanged tensor)) (height quoted tensor) refl) p.third;
}

a_and_c_exchanged : (s : Tensor ℤ) → IsPositiveTensor s → IsPositiveTensor (with_a_and_c_exchanged s)
a_and_c_exchanged s p = a_and_b_exchanged _ (b_and_c_exchanged _ (a_and_b_exchanged s p))

-- ---- the third coordinate

module _ {R : Type 0} (o : Ops R) where
  open o use {◌⊕◌, ◌⊗◌, opp, int}

  abbrev square : R → R
  square x = x ⊗ x

  -- D q - h z², and for the other two coordinates likewise
  abbrev pub spare_z : Tensor R → R → R → R → R
  spare_z s x y z = (s.aa ⊗ s.bb ⊕ opp (s.ab ⊗ s.ab)) ⊗ squared_length o s x y z ⊕ opp (height o s ⊗ (z ⊗ z))

  abbrev pub spare_y : Tensor R → R → R → R → R
  spare_y s x y z = (s.aa ⊗ s.cc ⊕ opp (s.ac ⊗ s.ac)) ⊗ squared_length o s x y z ⊕ opp (height o s ⊗ (y ⊗ y))

  abbrev pub spare_x : Tensor R → R → R → R → R
  spare_x s x y z = (s.bb ⊗ s.cc ⊕ opp (s.bc ⊗ s.bc)) ⊗ squared_length o s x y z ⊕ opp (height o s ⊗ (x ⊗ x))

  -- A (D q - h z²), as two squares
  abbrev spare_times : Tensor R → R → R → R → R
  spare_times s x y z = s.aa ⊗ spare_z s x y z

  abbrev two_squares : Tensor R → R → R → R → R
  two_squares s x y z =
      minor_ab o s ⊗ square (s.aa ⊗ x ⊕ s.ab ⊗ y ⊕ s.ac ⊗ z) ⊕ square (minor_ab o s ⊗ y ⊕ minor_bc o s ⊗ z)

  -- D q = (D q - h z²) + h z²
  abbrev minor_times : Tensor R → R → R → R → R
  minor_times s x y z = minor_ab o s ⊗ squared_length o s x y z

  abbrev spare_and : Tensor R → R → R → R → R
  spare_and s x y z = spare_z s x y z ⊕ height o s ⊗ (z ⊗ z)

  -- 2q - C z², and for the other two coordinates likewise
  abbrev pub box_of_z : Tensor R → R → R → R → R
  box_of_z s x y z = int (pos 2) ⊗ squared_length o s x y z ⊕ opp (s.cc ⊗ (z ⊗ z))

  abbrev pub box_of_y : Tensor R → R → R → R → R
  box_of_y s x y z = int (pos 2) ⊗ squared_length o s x y z ⊕ opp (s.bb ⊗ (y ⊗ y))

  abbrev pub box_of_x : Tensor R → R → R → R → R
  box_of_x s x y z = int (pos 2) ⊗ squared_length o s x y z ⊕ opp (s.aa ⊗ (x ⊗ x))

  -- A B (2q - C z²), as 2 (D q - h z²) + (2h - A B C) z² + 2 ab² q
  abbrev box_left : Tensor R → R → R → R → R
  box_left s x y z = s.aa ⊗ s.bb ⊗ box_of_z s x y z

  abbrev box_right : Tensor R → R → R → R → R
  box_right s x y z =
      int (pos 2) ⊗ spare_z s x y z ⊕ height_over o s ⊗ (z ⊗ z) ⊕ int (pos 2) ⊗ (s.ab ⊗ s.ab ⊗ squared_length o s x y z)

-- the values of nine variables
abbrev with_vector : Tensor ℤ → ℤ → ℤ → ℤ → List ℤ
with_vector s x y z = s.aa ∷ s.bb ∷ s.cc ∷ s.bc ∷ s.ac ∷ s.ab ∷ x ∷ y ∷ z ∷ []

-- h z² is at most D q
pub cauchy_z : (s : Tensor ℤ) (x y z : ℤ) → IsPositiveTensor s → pos 0 ≤ℤ spare_z int_ops s x y z
cauchy_z s x y z p =
    let k : pos 0 ≤ℤ two_squares int_ops s x y z = add_nonneg _ _ (mul_nonneg _ _ (weaken_lt _ _ p.second) (sq_nonneg _)) (sq_nonneg _) in
    nonneg_of_mul s.aa (spare_z int_ops s x y z) p.first (nonneg_is _ _ (by_ring int_ops int_laws (with_vector s x y z) (spare_times quoted tensor (var 6) (var 7) (var 8)) (two_squares quoted tensor (var 6) (var 7) (var 8)) refl) k)

-- a squared length is not negative
pub squared_length_nonneg : (s : Tensor ℤ) (x y z : ℤ) → IsPositiveTensor s → pos 0 ≤ℤ squared_length int_ops s x y z
squared_length_nonneg s x y z p =
    let k : pos 0 ≤ℤ spare_and int_ops s x y z = add_nonneg _ _ (cauchy_z s x y z p) (mul_nonneg _ _ (weaken_lt _ _ p.third) (sq_nonneg z)) in
    nonneg_of_mul (minor_ab int_ops s) (squared_length int_ops s x y z) p.second (nonneg_is _ _ (by_ring int_ops int_laws (with_vector s x y z) (minor_times quoted tensor (var 6) (var 7) (var 8)) (spare_and quoted tensor (var 6) (var 7) (var 8)) refl) k)

-- C z² is at most 2q where 2h is at least A B C
pub box_z : (s : Tensor ℤ) (x y z : ℤ) → IsPositiveTensor s → pos 0 ≤ℤ height_over int_ops s → pos 0 ≤ℤ box_of_z int_ops s x y z
box_z s x y z p m =
    let k1 : pos 0 ≤ℤ spare_z int_ops s x y z = cauchy_z s x y z p in
    let k2 : pos 0 ≤ℤ squared_length int_ops s x y z = squared_length_nonneg s x y z p in
    let k : pos 0 ≤ℤ box_right int_ops s x y z =
    add_nonneg _ _ (add_nonneg _ _ (mul_nonneg _ _ (lit_nonneg 2) k1) (mul_nonneg _ _ m (sq_nonneg z))) (mul_nonneg _ _ (lit_nonneg 2) (mul_nonneg _ _ (sq_nonneg s.ab) k2)) in
    nonneg_of_mul (s.aa *ℤ s.bb) (box_of_z int_ops s x y z) (mul_pos _ _ p.first (bb_positive s p)) (nonneg_is _ _ (by_ring int_ops int_laws (with_vector s x y z) (box_left quoted tensor (var 6) (var 7) (var 8)) (box_right quoted tensor (var 6) (var 7) (var 8)) refl) k)

-- ---- the other two coordinates, by exchanged axes

-- h y² is at most the minor of a and c times q
pub cauchy_y : (s : Tensor ℤ) (x y z : ℤ) → IsPositiveTensor s → pos 0 ≤ℤ spare_y int_ops s x y z
cauchy_y s x y z p =
    nonneg_is _ _ (by_ring int_ops int_laws (with_vector s x y z) (spare_y quoted tensor (var 6) (var 7) (var 8)) (spare_z quoted (with_b_and_c_exchanged tensor) (var 6) (var 8) (var 7)) refl) (cauchy_z (with_b_and_c_exchanged s) x z y (b_and_c_exchanged s p))

-- h x² is at most the minor of b and c times q
pub cauchy_x : (s : Tensor ℤ) (x y z : ℤ) → IsPositiveTensor s → pos 0 ≤ℤ spare_x int_ops s x y z
cauchy_x s x y z p =
    nonneg_is _ _ (by_ring int_ops int_laws (with_vector s x y z) (spare_x quoted tensor (var 6) (var 7) (var 8)) (spare_z quoted (with_a_and_c_exchanged tensor) (var 8) (var 7) (var 6)) refl) (cauchy_z (with_a_and_c_exchanged s) z y x (a_and_c_exchanged s p))

-- B y² is at most 2q
pub box_y : (s : Tensor ℤ) (x y z : ℤ) → IsPositiveTensor s → pos 0 ≤ℤ height_over int_ops s → pos 0 ≤ℤ box_of_y int_ops s x y z
box_y s x y z p m =
    let k : pos 0 ≤ℤ height_over int_ops (with_b_and_c_exchanged s) = nonneg_is _ _ (by_ring int_ops int_laws (listed s) (height_over quoted (with_b_and_c_exchanged tensor)) (height_over quoted tensor) refl) m in
    nonneg_is _ _ (by_ring int_ops int_laws (with_vector s x y z) (box_of_y quoted tensor (var 6) (var 7) (var 8)) (box_of_z quoted (with_b_and_c_exchanged tensor) (var 6) (var 8) (var 7)) refl) (box_z (with_b_and_c_exchanged s) x z y (b_and_c_exchanged s p) k)

-- A x² is at most 2q
pub box_x : (s : Tensor ℤ) (x y z : ℤ) → IsPositiveTensor s → pos 0 ≤ℤ height_over int_ops s → pos 0 ≤ℤ box_of_x int_ops s x y z
box_x s x y z p m =
    let k : pos 0 ≤ℤ height_over int_ops (with_a_and_c_exchanged s) = nonneg_is _ _ (by_ring int_ops int_laws (listed s) (height_over quoted (with_a_and_c_exchanged tensor)) (height_over quoted tensor) refl) m in
    nonneg_is _ _ (by_ring int_ops int_laws (with_vector s x y z) (box_of_x quoted tensor (var 6) (var 7) (var 8)) (box_of_z quoted (with_a_and_c_exchanged tensor) (var 8) (var 7) (var 6)) refl) (box_z (with_a_and_c_exchanged s) z y x (a_and_c_exchanged s p) k)

-- ---- positivity

module _ {R : Type 0} (o : Ops R) where
  open o use {◌⊕◌, ◌⊗◌, opp, int}

  -- 4D = 3A² + (A - ζ) (A + ζ) + 4A (B - A)
  abbrev four_minor : Tensor R → R
  four_minor s = int (pos 4) ⊗ minor_ab o s

  abbrev four_minor_is : Tensor R → R
  four_minor_is s =
      let z = int (pos 2) ⊗ s.ab in
      int (pos 3) ⊗ (s.aa ⊗ s.aa) ⊕ ((s.aa ⊕ opp z) ⊗ (s.aa ⊕ opp (opp z)) ⊕ int (pos 4) ⊗ (s.aa ⊗ (s.bb ⊕ opp s.aa)))

  -- 2h = A B C + (2h - A B C)
  abbrev two_height : Tensor R → R
  two_height s = int (pos 2) ⊗ height o s

  abbrev two_height_is : Tensor R → R
  two_height_is s = s.aa ⊗ s.bb ⊗ s.cc ⊕ height_over o s

-- a metric tensor that meets the main conditions is positive
pub reduced_positive : (s : Tensor ℤ) → IsReduced s → IsPositiveTensor s
reduced_positive s m =
    let a : pos 0 <ℤ s.aa = m.a_positive in
    let b : pos 0 <ℤ s.bb = omega (arith, ints, m.a_positive, m.a_to_b) in
    let c : pos 0 <ℤ s.cc = omega (arith, ints, m.a_positive, m.a_to_b, m.b_to_c) in
    let three : pos 0 <ℤ pos 3 = omega (arith, ints) in
    let d : pos 0 <ℤ four_minor_is int_ops s =
    add_pos _ _ (mul_pos _ _ three (mul_pos _ _ a a)) (add_nonneg _ _ (mul_nonneg _ _ (sub_nonneg _ _ (limits m).z_high) (sub_nonneg _ _ (limits m).z_low)) (mul_nonneg _ _ (lit_nonneg 4) (mul_nonneg _ _ (weaken_lt _ _ a) (sub_nonneg _ _ m.a_to_b)))) in
    let h : pos 0 <ℤ two_height_is int_ops s = add_pos _ _ (mul_pos _ _ (mul_pos _ _ a b) c) (height_over_nonneg s m) in
    record {
      first = a;
      second = quarter_pos _ (pos_is _ _ (by_ring int_ops int_laws (listed s) (four_minor quoted tensor) (four_minor_is quoted tensor) refl) d);
      third = half_pos _ (pos_is _ _ (by_ring int_ops int_laws (listed s) (two_height quoted tensor) (two_height_is quoted tensor) refl) h);
    }
