-- Niggli-reduced cells [KG76]. Letters as there: A, B, C are the squared lengths of the axes, ξ, η, ζ twice their
-- scalar products b·c, a·c and a·b; here a, b, c and x, y, z.
--   IsAcute x y z             ξ, η and ζ are positive (form I)
--   IsObtuse x y z            none of them is (form II)
--   MainConditions            the axes are the shortest: lengths in order, products no longer than they may be
--   AcuteConditions           the special conditions of form I, which choose among equally short axes
--   ObtuseConditions          those of form II
--   NiggliConditions          the main conditions and the special ones of its form
--   HasShortAxes g            the metric tensor g meets the main conditions
--   IsNiggli g                the metric tensor g is that of a Niggli-reduced cell
use Rattle.std.specs.Prelude.{◌≡◌, ◌⊎◌, ℤ, pos, ◌+ℤ◌, ◌*ℤ◌, unsigned_abs, ◌≤ℤ◌, ◌<ℤ◌}
use Rattle.crystal_spec.specs.Matrices.{Matrix}

-- |x|
abbrev pub size : ℤ → ℤ
size x = pos (unsigned_abs x)

abbrev pub twice : ℤ → ℤ
twice x = pos 2 *ℤ x

-- all three angles are acute
pub record IsAcute (x y z : ℤ) : Type 0 where
  pub x_positive : pos 0 <ℤ x
  pub y_positive : pos 0 <ℤ y
  pub z_positive : pos 0 <ℤ z

-- no angle is acute
pub record IsObtuse (x y z : ℤ) : Type 0 where
  pub x_at_most_0 : x ≤ℤ pos 0
  pub y_at_most_0 : y ≤ℤ pos 0
  pub z_at_most_0 : z ≤ℤ pos 0

pub record MainConditions (a b c x y z : ℤ) : Type 0 where
  pub a_positive : pos 0 <ℤ a
  pub a_to_b : a ≤ℤ b
  pub b_to_c : b ≤ℤ c
  pub x_to_b : size x ≤ℤ b
  pub y_to_a : size y ≤ℤ a
  pub z_to_a : size z ≤ℤ a
  pub form : IsAcute x y z ⊎ (IsObtuse x y z × ((size x +ℤ size y +ℤ size z) ≤ℤ (a +ℤ b)))

pub record AcuteConditions (a b c x y z : ℤ) : Type 0 where
  pub a_is_b : a ≡ b → x ≤ℤ y
  pub b_is_c : b ≡ c → y ≤ℤ z
  pub x_is_b : x ≡ b → z ≤ℤ twice y
  pub y_is_a : y ≡ a → z ≤ℤ twice x
  pub z_is_a : z ≡ a → y ≤ℤ twice x

pub record ObtuseConditions (a b c x y z : ℤ) : Type 0 where
  pub a_is_b : a ≡ b → size x ≤ℤ size y
  pub b_is_c : b ≡ c → size y ≤ℤ size z
  pub x_is_b : size x ≡ b → z ≡ pos 0
  pub y_is_a : size y ≡ a → z ≡ pos 0
  pub z_is_a : size z ≡ a → y ≡ pos 0
  pub sum_is_most : size x +ℤ size y +ℤ size z ≡ a +ℤ b → twice a ≤ℤ (twice (size y) +ℤ size z)

pub record NiggliConditions (a b c x y z : ℤ) : Type 0 where
  pub main : MainConditions a b c x y z
  pub acute : IsAcute x y z → AcuteConditions a b c x y z
  pub obtuse : IsObtuse x y z → ObtuseConditions a b c x y z

-- the main conditions of a symmetric matrix: its axes are as short as can be
abbrev pub HasShortAxes : Matrix → Type 0
HasShortAxes g = MainConditions g.a11 g.a22 g.a33 (twice g.a23) (twice g.a13) (twice g.a12)

abbrev pub IsNiggli : Matrix → Type 0
IsNiggli g = NiggliConditions g.a11 g.a22 g.a33 (twice g.a23) (twice g.a13) (twice g.a12)
