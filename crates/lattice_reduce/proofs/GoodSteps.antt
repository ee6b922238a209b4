-- The steps that the choice makes are good: each leads nearer to the conditions, takes off no large multiple, and is made
-- where a condition is not met.
use Rattle.std.proofs.Common.{◌≡◌, ◌^◌, ◌⊎◌, inl, inr, ℤ, pos, negsuc, ◌+ℤ◌, ◌*ℤ◌, neg_ℤ, ◌≤ℤ◌, ◌<ℤ◌, arith}
use Rattle.ring.specs.Size.{AtMost}
use Rattle.lattice_spec.specs.Tensor.{Tensor}
use Rattle.lattice_spec.specs.Niggli.{twice, size, IsAcute, IsObtuse}
use Rattle.lattice_reduce.specs.declared.step.Step.TheVariants.{ExchangeFirst, ExchangeLast, SecondLessFirst, ThirdLessSecond, ThirdLessFirst, AddToThird}
use Rattle.lattice_reduce.specs.Parts.{IsShort, HasPositiveDiagonal, excess_of, edge_of}
use Rattle.lattice_reduce.specs.Progress.{IsGoodStep}
use Rattle.lattice_reduce.proofs.Falling.{exchange_first_larger, exchange_first_equal, exchange_last_larger, exchange_last_equal, second_less_first_main, third_less_second_main, third_less_first_main, add_to_third_main, third_less_second_edge, third_less_second_edge', third_less_first_edge, third_less_first_edge', second_less_first_edge, second_less_first_edge', add_to_third_edge}
use Rattle.lattice_reduce.proofs.Needed.{needed_first, needed_last, needed_second, needed_third, needed_third_first, needed_sum, needed_x, needed_y, needed_z, needed_x', needed_y', needed_z', needed_sum'}

none_small : AtMost (10 ^ 22) (pos 0)
none_small = record { size = omega arith }

-- an exchange of a and b
pub good_exchange_first : (s : Tensor ℤ) → ((s.bb <ℤ s.aa) ⊎ ((s.aa ≡ s.bb) × (size s.ac <ℤ size s.bc))) → IsGoodStep s ExchangeFirst
good_exchange_first s (inl h) = record { falls = exchange_first_larger s h; small = none_small; needed = needed_first s (inl h) }
good_exchange_first s (inr h) = record { falls = exchange_first_equal s h.0 h.1; small = none_small; needed = needed_first s (inr h) }

-- an exchange of b and c
pub good_exchange_last : (s : Tensor ℤ) → ((s.cc <ℤ s.bb) ⊎ ((s.bb ≡ s.cc) × (size s.ab <ℤ size s.ac))) → IsGoodStep s ExchangeLast
good_exchange_last s (inl h) = record { falls = exchange_last_larger s h; small = none_small; needed = needed_last s (inl h) }
good_exchange_last s (inr h) = record { falls = exchange_last_equal s h.0 h.1; small = none_small; needed = needed_last s (inr h) }

-- the nearest multiple of a off b
pub good_second : (s : Tensor ℤ) (k : ℤ) → pos 0 <ℤ s.aa → AtMost (10 ^ 22) k → size (twice (s.ab +ℤ neg_ℤ (k *ℤ s.aa))) ≤ℤ s.aa → s.aa <ℤ size (twice s.ab) → IsGoodStep s (SecondLessFirst k)
good_second s k p m h l = record { falls = second_less_first_main s k p h l; small = m; needed = needed_second s l }

-- the nearest multiple of b off c
pub good_third : (s : Tensor ℤ) (k : ℤ) → pos 0 <ℤ s.bb → AtMost (10 ^ 22) k → size (twice (s.bc +ℤ neg_ℤ (k *ℤ s.bb))) ≤ℤ s.bb → s.bb <ℤ size (twice s.bc) → IsGoodStep s (ThirdLessSecond k)
good_third s k p m h l = record { falls = third_less_second_main s k p h l; small = m; needed = needed_third s l }

-- the nearest multiple of a off c
pub good_third_first : (s : Tensor ℤ) (k : ℤ) → pos 0 <ℤ s.aa → AtMost (10 ^ 22) k → size (twice (s.ac +ℤ neg_ℤ (k *ℤ s.aa))) ≤ℤ s.aa → s.aa <ℤ size (twice s.ac) → IsGoodStep s (ThirdLessFirst k)
good_third_first s k p m h l = record { falls = third_less_first_main s k p h l; small = m; needed = needed_third_first s l }

-- a and b added to c, where that is shorter
pub good_sum : (s : Tensor ℤ) → excess_of s <ℤ pos 0 → IsGoodStep s AddToThird
good_sum s h = record { falls = add_to_third_main s h; small = none_small; needed = needed_sum s h }

one_small : AtMost (10 ^ 22) (pos 1)
one_small = record { size = omega arith }

minus_small : AtMost (10 ^ 22) (negsuc 0)
minus_small = record { size = omega arith }

-- form I: ξ = B
pub good_x : (s : Tensor ℤ) → IsAcute s.bc s.ac s.ab → (twice s.bc ≡ s.bb) × (twice (twice s.ac) <ℤ twice s.ab) → IsGoodStep s (ThirdLessSecond (pos 1))
good_x s p h = record { falls = third_less_second_edge s p h.0 h.1; small = one_small; needed = needed_x s p h }

-- form I: η = A
pub good_y : (s : Tensor ℤ) → IsAcute s.bc s.ac s.ab → (twice s.ac ≡ s.aa) × (twice (twice s.bc) <ℤ twice s.ab) → IsGoodStep s (ThirdLessFirst (pos 1))
good_y s p h = record { falls = third_less_first_edge s p h.0 h.1; small = one_small; needed = needed_y s p h }

-- form I: ζ = A
pub good_z : (s : Tensor ℤ) → IsAcute s.bc s.ac s.ab → (twice s.ab ≡ s.aa) × (twice (twice s.bc) <ℤ twice s.ac) → IsGoodStep s (SecondLessFirst (pos 1))
good_z s p h = record { falls = second_less_first_edge s p h.0 h.1; small = one_small; needed = needed_z s p h }

-- form II: ξ = -B
pub good_x' : (s : Tensor ℤ) → IsObtuse s.bc s.ac s.ab → HasPositiveDiagonal s → (twice s.bc ≡ neg_ℤ s.bb) × (s.ab <ℤ pos 0) → IsGoodStep s (ThirdLessSecond (negsuc 0))
good_x' s p d h = record { falls = third_less_second_edge' s p d.bb h.0 h.1; small = minus_small; needed = needed_x' s p d.bb h }

-- form II: η = -A
pub good_y' : (s : Tensor ℤ) → IsObtuse s.bc s.ac s.ab → HasPositiveDiagonal s → (twice s.ac ≡ neg_ℤ s.aa) × (s.ab <ℤ pos 0) → IsGoodStep s (ThirdLessFirst (negsuc 0))
good_y' s p d h = record { falls = third_less_first_edge' s p d.aa h.0 h.1; small = minus_small; needed = needed_y' s p d.aa h }

-- form II: ζ = -A
pub good_z' : (s : Tensor ℤ) → IsObtuse s.bc s.ac s.ab → HasPositiveDiagonal s → (twice s.ab ≡ neg_ℤ s.aa) × (s.ac <ℤ pos 0) → IsGoodStep s (SecondLessFirst (negsuc 0))
good_z' s p d h = record { falls = second_less_first_edge' s p d.aa h.0 h.1; small = minus_small; needed = needed_z' s p d.aa h }

-- form II: excess 0
pub good_sum' : (s : Tensor ℤ) → IsObtuse s.bc s.ac s.ab → IsShort s → s.aa ≤ℤ s.bb → (excess_of s ≡ pos 0) × (pos 0 <ℤ edge_of s) → IsGoodStep s AddToThird
good_sum' s p t o h = record { falls = add_to_third_edge s p t.x_to_b t.y_to_a t.z_to_a o h.0 h.1; small = none_small; needed = needed_sum' s p h }
