-- What a step brings nearer to the Niggli conditions. Letters as in [KG76]: A, B, C squared lengths, ξ, η, ζ twice the
-- products. Where all before it stay the same, one of these changes in its direction:
--   trace s             A + B + C falls
--   leading_weight s    2 A + B falls
--   acute_form s        1 where ξ η ζ is positive, rises
--   weighted_sizes s    half of |ξ| + 2 |η| + 3 |ζ|, rises
--   mixed_signs s       1 where one or two of ξ, η, ζ are positive, falls
--   Falls s t           the metric tensor t is nearer than s in this order
--   IsGoodStep s step   a step that leads nearer, takes off no large multiple, and is made where conditions are not met
use Rattle.std.specs.Prelude.{◌≡◌, ℕ, zero, suc, ◌+◌, ◌^◌, ◌<◌, ℤ, pos, negsuc, ◌+ℤ◌, ◌*ℤ◌, ◌<ℤ◌}
use Rattle.ring.specs.Size.{AtMost}
use Rattle.lattice_spec.specs.Tensor.{Tensor, tensor_matrix}
use Rattle.lattice_spec.specs.Niggli.{size, twice, IsNiggli}
use Rattle.lattice_reduce.specs.declared.step.Step.{Step}
use Rattle.lattice_reduce.specs.Steps.{after_step, multiple_of}

-- 1 for a positive number, else 0
abbrev pub positive_count : ℤ → ℕ
positive_count (pos zero) = 0
positive_count (pos (suc n)) = 1
positive_count (negsuc n) = 0

-- the sum of the squared lengths
abbrev pub trace : Tensor ℤ → ℤ
trace s = s.aa +ℤ s.bb +ℤ s.cc

-- lower for shorter axes a and b in order
abbrev pub leading_weight : Tensor ℤ → ℤ
leading_weight s = twice s.aa +ℤ s.bb

-- 1 where the three products have a positive product
abbrev pub acute_form : Tensor ℤ → ℕ
acute_form s = positive_count (s.bc *ℤ s.ac *ℤ s.ab)

-- higher for products of larger size in the later places
abbrev pub weighted_sizes : Tensor ℤ → ℤ
weighted_sizes s = size s.bc +ℤ twice (size s.ac) +ℤ (twice (size s.ab) +ℤ size s.ab)

-- how many of the three products are positive
abbrev pub positives : Tensor ℤ → ℕ
positives s = positive_count s.bc + positive_count s.ac + positive_count s.ab

-- 1 for one and two, 0 for none and all three
abbrev pub mixed_count : ℕ → ℕ
mixed_count zero = 0
mixed_count (suc zero) = 1
mixed_count (suc (suc zero)) = 1
mixed_count (suc (suc (suc n))) = 0

-- 1 where one or two of the three products are positive
abbrev pub mixed_signs : Tensor ℤ → ℕ
mixed_signs s = mixed_count (positives s)

-- t is nearer to the conditions than s
pub data Falls (s t : Tensor ℤ) : Type 0 where
  trace_falls : trace t <ℤ trace s → Falls s t
  weight_falls : trace t ≡ trace s → leading_weight t <ℤ leading_weight s → Falls s t
  form_rises : trace t ≡ trace s → leading_weight t ≡ leading_weight s → acute_form s < acute_form t → Falls s t
  sizes_rise : trace t ≡ trace s → leading_weight t ≡ leading_weight s → acute_form t ≡ acute_form s → weighted_sizes s <ℤ weighted_sizes t → Falls s t
  mixed_falls : trace t ≡ trace s → leading_weight t ≡ leading_weight s → acute_form t ≡ acute_form s → weighted_sizes t ≡ weighted_sizes s → mixed_signs t < mixed_signs s → Falls s t

-- a step that leads nearer to the conditions, and is made only where they are not met
pub record IsGoodStep (s : Tensor ℤ) (step : Step) : Type 0 where
  pub falls : Falls s (after_step step s)
  pub small : AtMost (10 ^ 22) (multiple_of step)
  pub needed : IsNiggli (tensor_matrix s) → ⊥
