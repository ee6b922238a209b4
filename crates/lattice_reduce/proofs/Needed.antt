-- No step is made where the conditions are met: each test of the choice contradicts one of them. So a metric tensor that
-- meets the conditions keeps its basis.
use Rattle.std.proofs.Common.{◌≡◌, ℤ, pos, ◌+ℤ◌, neg_ℤ, ◌≤ℤ◌, ◌<ℤ◌, ◌⊎◌, inl, inr, arith}
use Rattle.std.proofs.lemmas.Int.{ints}
use Rattle.lattice_spec.specs.Tensor.{Tensor, tensor_matrix}
use Rattle.lattice_spec.specs.Niggli.{size, twice, IsAcute, IsObtuse, IsNiggli}
use Rattle.lattice_reduce.specs.Parts.{sum_excess, excess_of, edge_of}

below : (a b : ℤ) → a ≤ℤ b → b <ℤ a → ⊥
below a b h k = omega (arith, ints, h, k)

half_sizes : (x y : ℤ) → size (twice x) ≤ℤ size (twice y) → size y <ℤ size x → ⊥
half_sizes x y h k = omega (arith, ints, h, k)

half_values : (x y : ℤ) → pos 0 <ℤ twice x → twice x ≤ℤ twice y → size y <ℤ size x → ⊥
half_values x y p h k = omega (arith, ints, p, h, k)

-- A = B or A > B: places of a and b
pub needed_first : (s : Tensor ℤ) → ((s.bb <ℤ s.aa) ⊎ ((s.aa ≡ s.bb) × (size s.ac <ℤ size s.bc))) → IsNiggli (tensor_matrix s) → ⊥
needed_first s (inl h) n = below s.aa s.bb n.main.a_to_b h
needed_first s (inr h) n = elim n.main.form [ inl f ↦ half_values s.bc s.ac f.x_positive ((n.acute f).a_is_b h.0) h.1 | inr f ↦ half_sizes s.bc s.ac ((n.obtuse f.0).a_is_b h.0) h.1 ]

-- B = C or B > C: places of b and c
pub needed_last : (s : Tensor ℤ) → ((s.cc <ℤ s.bb) ⊎ ((s.bb ≡ s.cc) × (size s.ab <ℤ size s.ac))) → IsNiggli (tensor_matrix s) → ⊥
needed_last s (inl h) n = below s.bb s.cc n.main.b_to_c h
needed_last s (inr h) n = elim n.main.form [ inl f ↦ half_values s.ac s.ab f.y_positive ((n.acute f).b_is_c h.0) h.1 | inr f ↦ half_sizes s.ac s.ab ((n.obtuse f.0).b_is_c h.0) h.1 ]

-- |ζ| > A
pub needed_second : (s : Tensor ℤ) → s.aa <ℤ size (twice s.ab) → IsNiggli (tensor_matrix s) → ⊥
needed_second s h n = below (size (twice s.ab)) s.aa n.main.z_to_a h

-- |ξ| > B
pub needed_third : (s : Tensor ℤ) → s.bb <ℤ size (twice s.bc) → IsNiggli (tensor_matrix s) → ⊥
needed_third s h n = below (size (twice s.bc)) s.bb n.main.x_to_b h

-- |η| > A
pub needed_third_first : (s : Tensor ℤ) → s.aa <ℤ size (twice s.ac) → IsNiggli (tensor_matrix s) → ⊥
needed_third_first s h n = below (size (twice s.ac)) s.aa n.main.y_to_a h

sum_positive : (a b x y z : ℤ) → pos 0 <ℤ a → a ≤ℤ b → pos 0 <ℤ x → pos 0 <ℤ y → pos 0 <ℤ z → pos 0 <ℤ sum_excess a b x y z
sum_positive a b x y z h k l m n = omega (arith, ints, h, k, l, m, n)

not_below : (a : ℤ) → pos 0 <ℤ a → a <ℤ pos 0 → ⊥
not_below a h k = omega (arith, ints, h, k)

sum_least : (a b x y z : ℤ) → x ≤ℤ pos 0 → y ≤ℤ pos 0 → z ≤ℤ pos 0 → (size x +ℤ size y +ℤ size z) ≤ℤ (a +ℤ b) → sum_excess a b x y z <ℤ pos 0 → ⊥
sum_least a b x y z h k l m n = omega (arith, ints, h, k, l, m, n)

-- a negative excess
pub needed_sum : (s : Tensor ℤ) → excess_of s <ℤ pos 0 → IsNiggli (tensor_matrix s) → ⊥
needed_sum s h n = elim n.main.form [
  | inl f ↦ not_below (excess_of s) (sum_positive s.aa s.bb (twice s.bc) (twice s.ac) (twice s.ab) n.main.a_positive n.main.a_to_b f.x_positive f.y_positive f.z_positive) h
  | inr f ↦ sum_least s.aa s.bb (twice s.bc) (twice s.ac) (twice s.ab) f.0.x_at_most_0 f.0.y_at_most_0 f.0.z_at_most_0 f.1 h
]

not_negative : (x : ℤ) → pos 0 <ℤ x → twice x ≤ℤ pos 0 → ⊥
not_negative x h k = omega (arith, ints, h, k)

not_positive : (x : ℤ) → x ≤ℤ pos 0 → pos 0 <ℤ twice x → ⊥
not_positive x h k = omega (arith, ints, h, k)

-- ξ = B in form I
pub needed_x : (s : Tensor ℤ) → IsAcute s.bc s.ac s.ab → (twice s.bc ≡ s.bb) × (twice (twice s.ac) <ℤ twice s.ab) → IsNiggli (tensor_matrix s) → ⊥
needed_x s p h n = elim n.main.form [ inl f ↦ below (twice s.ab) (twice (twice s.ac)) ((n.acute f).x_is_b h.0) h.1 | inr f ↦ not_negative s.bc p.x_positive f.0.x_at_most_0 ]

-- η = A in form I
pub needed_y : (s : Tensor ℤ) → IsAcute s.bc s.ac s.ab → (twice s.ac ≡ s.aa) × (twice (twice s.bc) <ℤ twice s.ab) → IsNiggli (tensor_matrix s) → ⊥
needed_y s p h n = elim n.main.form [ inl f ↦ below (twice s.ab) (twice (twice s.bc)) ((n.acute f).y_is_a h.0) h.1 | inr f ↦ not_negative s.bc p.x_positive f.0.x_at_most_0 ]

-- ζ = A in form I
pub needed_z : (s : Tensor ℤ) → IsAcute s.bc s.ac s.ab → (twice s.ab ≡ s.aa) × (twice (twice s.bc) <ℤ twice s.ac) → IsNiggli (tensor_matrix s) → ⊥
needed_z s p h n = elim n.main.form [ inl f ↦ below (twice s.ac) (twice (twice s.bc)) ((n.acute f).z_is_a h.0) h.1 | inr f ↦ not_negative s.bc p.x_positive f.0.x_at_most_0 ]

size_back : (x a : ℤ) → pos 0 <ℤ a → x ≡ neg_ℤ a → size x ≡ a
size_back x a h e = omega (arith, ints, h, e)

not_zero : (x : ℤ) → x <ℤ pos 0 → twice x ≡ pos 0 → ⊥
not_zero x h e = omega (arith, ints, h, e)

-- ξ = -B in form II
pub needed_x' : (s : Tensor ℤ) → IsObtuse s.bc s.ac s.ab → pos 0 <ℤ s.bb → (twice s.bc ≡ neg_ℤ s.bb) × (s.ab <ℤ pos 0) → IsNiggli (tensor_matrix s) → ⊥
needed_x' s p b h n = elim n.main.form [ inl f ↦ not_positive s.bc p.x_at_most_0 f.x_positive | inr f ↦ not_zero s.ab h.1 ((n.obtuse f.0).x_is_b (size_back (twice s.bc) s.bb b h.0)) ]

-- η = -A in form II
pub needed_y' : (s : Tensor ℤ) → IsObtuse s.bc s.ac s.ab → pos 0 <ℤ s.aa → (twice s.ac ≡ neg_ℤ s.aa) × (s.ab <ℤ pos 0) → IsNiggli (tensor_matrix s) → ⊥
needed_y' s p a h n = elim n.main.form [ inl f ↦ not_positive s.bc p.x_at_most_0 f.x_positive | inr f ↦ not_zero s.ab h.1 ((n.obtuse f.0).y_is_a (size_back (twice s.ac) s.aa a h.0)) ]

-- ζ = -A in form II
pub needed_z' : (s : Tensor ℤ) → IsObtuse s.bc s.ac s.ab → pos 0 <ℤ s.aa → (twice s.ab ≡ neg_ℤ s.aa) × (s.ac <ℤ pos 0) → IsNiggli (tensor_matrix s) → ⊥
needed_z' s p a h n = elim n.main.form [ inl f ↦ not_positive s.bc p.x_at_most_0 f.x_positive | inr f ↦ not_zero s.ac h.1 ((n.obtuse f.0).z_is_a (size_back (twice s.ab) s.aa a h.0)) ]

sizes_at : (a b x y z : ℤ) → x ≤ℤ pos 0 → y ≤ℤ pos 0 → z ≤ℤ pos 0 → sum_excess a b x y z ≡ pos 0 → size x +ℤ size y +ℤ size z ≡ a +ℤ b
sizes_at a b x y z h k l e = omega (arith, ints, h, k, l, e)

edge_at : (a y z : ℤ) → y ≤ℤ pos 0 → z ≤ℤ pos 0 → twice a ≤ℤ (twice (size y) +ℤ size z) → pos 0 <ℤ (twice (a +ℤ y) +ℤ z) → ⊥
edge_at a y z h k l m = omega (arith, ints, h, k, l, m)

-- excess 0 in form II
pub needed_sum' : (s : Tensor ℤ) → IsObtuse s.bc s.ac s.ab → (excess_of s ≡ pos 0) × (pos 0 <ℤ edge_of s) → IsNiggli (tensor_matrix s) → ⊥
needed_sum' s p h n = elim n.main.form [
  | inl f ↦ not_positive s.bc p.x_at_most_0 f.x_positive
  | inr f ↦ edge_at s.aa (twice s.ac) (twice s.ab) f.0.y_at_most_0 f.0.z_at_most_0 ((n.obtuse f.0).sum_is_most (sizes_at s.aa s.bb (twice s.bc) (twice s.ac) (twice s.ab) f.0.x_at_most_0 f.0.y_at_most_0 f.0.z_at_most_0 h.0)) h.1
]

-- ξ is positive and another is not
pub mixed_first : (s : Tensor ℤ) → pos 0 <ℤ s.bc → (s.ac ≤ℤ pos 0) ⊎ (s.ab ≤ℤ pos 0) → IsNiggli (tensor_matrix s) → ⊥
mixed_first s h (inl k) n = elim n.main.form [ inl f ↦ not_positive s.ac k f.y_positive | inr f ↦ not_negative s.bc h f.0.x_at_most_0 ]
mixed_first s h (inr k) n = elim n.main.form [ inl f ↦ not_positive s.ab k f.z_positive | inr f ↦ not_negative s.bc h f.0.x_at_most_0 ]

-- η is positive and another is not
pub mixed_second : (s : Tensor ℤ) → pos 0 <ℤ s.ac → (s.bc ≤ℤ pos 0) ⊎ (s.ab ≤ℤ pos 0) → IsNiggli (tensor_matrix s) → ⊥
mixed_second s h (inl k) n = elim n.main.form [ inl f ↦ not_positive s.bc k f.x_positive | inr f ↦ not_negative s.ac h f.0.y_at_most_0 ]
mixed_second s h (inr k) n = elim n.main.form [ inl f ↦ not_positive s.ab k f.z_positive | inr f ↦ not_negative s.ac h f.0.y_at_most_0 ]

-- ζ is positive and another is not
pub mixed_third : (s : Tensor ℤ) → pos 0 <ℤ s.ab → (s.bc ≤ℤ pos 0) ⊎ (s.ac ≤ℤ pos 0) → IsNiggli (tensor_matrix s) → ⊥
mixed_third s h (inl k) n = elim n.main.form [ inl f ↦ not_positive s.bc k f.x_positive | inr f ↦ not_negative s.ab h f.0.z_at_most_0 ]
mixed_third s h (inr k) n = elim n.main.form [ inl f ↦ not_positive s.ac k f.y_positive | inr f ↦ not_negative s.ab h f.0.z_at_most_0 ]
