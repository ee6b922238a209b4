-- The main conditions as inequalities without sizes, which linear arithmetic takes.
--   Limits a b c x y z   what the main conditions say of each product and its opposite
--   limits               they say so
--   IsReduced t          the metric tensor t meets the main conditions
use Rattle.std.proofs.Common.{◌⊎◌, inl, inr, ℤ, pos, negsuc, ◌+ℤ◌, neg_ℤ, ◌≤ℤ◌, arith}
use Rattle.std.proofs.lemmas.Int.{ints}
use Rattle.lattice_spec.specs.Tensor.{Tensor, tensor_matrix}
use Rattle.lattice_spec.specs.Niggli.{size, IsAcute, MainConditions, HasShortAxes}

-- its axes are as short as can be
abbrev pub IsReduced : Tensor ℤ → Type 0
IsReduced t = HasShortAxes (tensor_matrix t)

-- no product is positive, and the sum of their opposites is at most a + b
pub record ObtuseLimits (a b x y z : ℤ) : Type 0 where
  pub x_at_most_0 : x ≤ℤ pos 0
  pub y_at_most_0 : y ≤ℤ pos 0
  pub z_at_most_0 : z ≤ℤ pos 0
  pub sum_of_opposites : (neg_ℤ x +ℤ neg_ℤ y +ℤ neg_ℤ z) ≤ℤ (a +ℤ b)

-- each product and its opposite is at most its bound, and the form is one of two
pub record Limits (a b c x y z : ℤ) : Type 0 where
  pub x_high : x ≤ℤ b
  pub x_low : neg_ℤ x ≤ℤ b
  pub y_high : y ≤ℤ a
  pub y_low : neg_ℤ y ≤ℤ a
  pub z_high : z ≤ℤ a
  pub z_low : neg_ℤ z ≤ℤ a
  pub form : IsAcute x y z ⊎ ObtuseLimits a b x y z

-- a number is at most its size, and its opposite too
size_high : (x : ℤ) → x ≤ℤ size x
size_high (pos n) = omega (arith, ints)
size_high (negsuc n) = omega (arith, ints)

size_low : (x : ℤ) → neg_ℤ x ≤ℤ size x
size_low (pos n) = omega (arith, ints)
size_low (negsuc n) = omega (arith, ints)

through : (x s b : ℤ) → x ≤ℤ s → s ≤ℤ b → x ≤ℤ b
through x s b h k = omega (arith, ints, h, k)

sum_through : (x y z r s t n : ℤ) → x ≤ℤ r → y ≤ℤ s → z ≤ℤ t → (r +ℤ s +ℤ t) ≤ℤ n → (x +ℤ y +ℤ z) ≤ℤ n
sum_through x y z r s t n h k l m = omega (arith, ints, h, k, l, m)

-- the main conditions say so
pub limits : {a b c x y z : ℤ} → MainConditions a b c x y z → Limits a b c x y z
limits {a} {b} {c} {x} {y} {z} m = record {
  x_high = through _ _ _ (size_high x) m.x_to_b;
  x_low = through _ _ _ (size_low x) m.x_to_b;
  y_high = through _ _ _ (size_high y) m.y_to_a;
  y_low = through _ _ _ (size_low y) m.y_to_a;
  z_high = through _ _ _ (size_high z) m.z_to_a;
  z_low = through _ _ _ (size_low z) m.z_to_a;
  form = elim m.form [
    | inl p ↦ inl p
    | inr p ↦ inr (record { x_at_most_0 = p.0.x_at_most_0; y_at_most_0 = p.0.y_at_most_0; z_at_most_0 = p.0.z_at_most_0; sum_of_opposites = sum_through _ _ _ _ _ _ _ (size_low x) (size_low y) (size_low z) p.1 })
  ];
}
