-- The conditions of a Niggli-reduced metric tensor in the parts in which the choice of a step tests them. They are on the
-- scalar products themselves; ξ, η and ζ of [KG76] are twice these.
--   IsSorted s               lengths in order, and products in order where two lengths are equal
--   IsShort s                no product is longer than it may be
--   sum_excess s             the squared length of a + b + c less that of c
--   sum_edge s               2 (A + η) + ζ, which decides where the excess is 0
--   HasAcuteEdges s          where a product of form I is as long as it may be
--   HasObtuseEdges s         where a product of form II, or their sum, is
--   HasPositiveDiagonal s    squared lengths are positive
use Rattle.std.specs.Prelude.{◌≡◌, ◌⊎◌, ℤ, pos, ◌+ℤ◌, neg_ℤ, ◌≤ℤ◌, ◌<ℤ◌}
use Rattle.lattice_spec.specs.Tensor.{Tensor}
use Rattle.lattice_spec.specs.Niggli.{size, twice, IsAcute, IsObtuse}

-- lengths in order, and products in order where two lengths are equal
pub record IsSorted (s : Tensor ℤ) : Type 0 where
  pub a_to_b : s.aa ≤ℤ s.bb
  pub b_to_c : s.bb ≤ℤ s.cc
  pub a_is_b : s.aa ≡ s.bb → size s.bc ≤ℤ size s.ac
  pub b_is_c : s.bb ≡ s.cc → size s.ac ≤ℤ size s.ab

-- no product is longer than it may be
pub record IsShort (s : Tensor ℤ) : Type 0 where
  pub x_to_b : size (twice s.bc) ≤ℤ s.bb
  pub y_to_a : size (twice s.ac) ≤ℤ s.aa
  pub z_to_a : size (twice s.ab) ≤ℤ s.aa

-- all three are positive, or none is
abbrev pub IsSigned : ℤ → ℤ → ℤ → Type 0
IsSigned x y z = IsAcute x y z ⊎ IsObtuse x y z

-- A + B + ξ + η + ζ
abbrev pub sum_excess : ℤ → ℤ → ℤ → ℤ → ℤ → ℤ
sum_excess a b x y z = a +ℤ b +ℤ x +ℤ y +ℤ z

-- the squared length of a + b + c less that of c
abbrev pub excess_of : Tensor ℤ → ℤ
excess_of s = sum_excess s.aa s.bb (twice s.bc) (twice s.ac) (twice s.ab)

-- 2 (A + η) + ζ
abbrev pub edge_of : Tensor ℤ → ℤ
edge_of s = twice (s.aa +ℤ twice s.ac) +ℤ twice s.ab

-- the special conditions of form I where a product is as long as it may be
pub record HasAcuteEdges (s : Tensor ℤ) : Type 0 where
  pub x_is_b : twice s.bc ≡ s.bb → twice s.ab ≤ℤ twice (twice s.ac)
  pub y_is_a : twice s.ac ≡ s.aa → twice s.ab ≤ℤ twice (twice s.bc)
  pub z_is_a : twice s.ab ≡ s.aa → twice s.ac ≤ℤ twice (twice s.bc)

-- those of form II, and that of the sum
pub record HasObtuseEdges (s : Tensor ℤ) : Type 0 where
  pub x_is_b : twice s.bc ≡ neg_ℤ s.bb → pos 0 ≤ℤ s.ab
  pub y_is_a : twice s.ac ≡ neg_ℤ s.aa → pos 0 ≤ℤ s.ab
  pub z_is_a : twice s.ab ≡ neg_ℤ s.aa → pos 0 ≤ℤ s.ac
  pub sum_is_most : excess_of s ≡ pos 0 → edge_of s ≤ℤ pos 0

-- squared lengths are positive
pub record HasPositiveDiagonal (s : Tensor ℤ) : Type 0 where
  pub aa : pos 0 <ℤ s.aa
  pub bb : pos 0 <ℤ s.bb
  pub cc : pos 0 <ℤ s.cc
