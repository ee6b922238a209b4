-- The steps that leave all three products positive, or none: two axes are reversed where one or two products are positive.
--   two_third ..      a·b alone is not positive, ..
--   first_third ..    b·c alone is positive, and the step that keeps c serves, ..
use Rattle.std.proofs.Common.{◌≡◌, ◌≢◌, ℕ, zero, suc, ◌+◌, ◌<◌, ◌⊎◌, inl, inr, ℤ, pos, negsuc, neg_ℤ, ◌≤ℤ◌, ◌<ℤ◌, ◌^◌, arith, refl}
use Rattle.std.proofs.lemmas.Int.{ints}
use Rattle.ring.specs.Size.{AtMost}
use Rattle.lattice_spec.specs.Tensor.{Tensor}
use Rattle.lattice_reduce.specs.declared.step.Step.TheVariants.{KeepFirst, KeepSecond, KeepThird}
use Rattle.lattice_reduce.specs.Progress.{positive_count, mixed_count, IsGoodStep}
use Rattle.lattice_reduce.proofs.Falling.{count_one, count_none, keep_first_orders, keep_second_orders, keep_third_orders}
use Rattle.lattice_reduce.proofs.Needed.{mixed_first, mixed_second, mixed_third}

none_small : AtMost (10 ^ 22) (pos 0)
none_small = record { size = omega arith }

-- one or two positive, and then none or three
smoother : (m n : ℕ) → (m ≡ 1) ⊎ (m ≡ 2) → (n ≡ 0) ⊎ (n ≡ 3) → mixed_count n < mixed_count m
smoother m n (inl h) (inl k) = rw (h, k) (omega arith)
smoother m n (inl h) (inr k) = rw (h, k) (omega arith)
smoother m n (inr h) (inl k) = rw (h, k) (omega arith)
smoother m n (inr h) (inr k) = rw (h, k) (omega arith)

sums : (a b c x y z : ℕ) → a ≡ x → b ≡ y → c ≡ z → a + b + c ≡ x + y + z
sums a b c x y z e f g = omega (arith, e, f, g)

neg_least : (x : ℤ) → pos 0 <ℤ x → neg_ℤ x ≤ℤ pos 0
neg_least x h = omega (arith, ints)

neg_most : (x : ℤ) → x <ℤ pos 0 → pos 0 <ℤ neg_ℤ x
neg_most x h = omega (arith, ints)

neg_zero : (x : ℤ) → x ≡ pos 0 → neg_ℤ x ≤ℤ pos 0
neg_zero x h = omega (arith, ints, h)

below_none : (x : ℤ) → x <ℤ pos 0 → x ≤ℤ pos 0
below_none x h = omega (arith, ints)

zero_none : (x : ℤ) → x ≡ pos 0 → x ≤ℤ pos 0
zero_none x h = omega (arith, ints, h)

-- what is neither positive nor 0 is negative
pub negative : (x : ℤ) → x ≤ℤ pos 0 → x ≢ pos 0 → x <ℤ pos 0
negative (pos zero) h n = absurd (n refl)
negative (pos (suc k)) h n = absurd (omega (arith, ints, h))
negative (negsuc k) h n = omega (arith, ints)

-- b·c and a·c alone are positive
pub two_third : (s : Tensor ℤ) → pos 0 <ℤ s.bc → pos 0 <ℤ s.ac → s.ab ≤ℤ pos 0 → IsGoodStep s KeepThird
two_third s h k l = record {
  falls = keep_third_orders s (smoother _ _
      (inr (sums (positive_count s.bc) (positive_count s.ac) (positive_count s.ab) 1 1 0 (count_one s.bc h) (count_one s.ac k) (count_none s.ab l)))
      (inl (sums (positive_count (neg_ℤ s.bc)) (positive_count (neg_ℤ s.ac)) (positive_count s.ab) 0 0 0 (count_none (neg_ℤ s.bc) (neg_least s.bc h)) (count_none (neg_ℤ s.ac) (neg_least s.ac k)) (count_none s.ab l))));
  small = none_small;
  needed = mixed_first s h (inr l);
}

-- b·c and a·b alone are
pub two_second : (s : Tensor ℤ) → pos 0 <ℤ s.bc → s.ac ≤ℤ pos 0 → pos 0 <ℤ s.ab → IsGoodStep s KeepSecond
two_second s h k l = record {
  falls = keep_second_orders s (smoother _ _
      (inr (sums (positive_count s.bc) (positive_count s.ac) (positive_count s.ab) 1 0 1 (count_one s.bc h) (count_none s.ac k) (count_one s.ab l)))
      (inl (sums (positive_count (neg_ℤ s.bc)) (positive_count s.ac) (positive_count (neg_ℤ s.ab)) 0 0 0 (count_none (neg_ℤ s.bc) (neg_least s.bc h)) (count_none s.ac k) (count_none (neg_ℤ s.ab) (neg_least s.ab l)))));
  small = none_small;
  needed = mixed_first s h (inl k);
}

-- a·c and a·b alone are
pub two_first : (s : Tensor ℤ) → s.bc ≤ℤ pos 0 → pos 0 <ℤ s.ac → pos 0 <ℤ s.ab → IsGoodStep s KeepFirst
two_first s h k l = record {
  falls = keep_first_orders s (smoother _ _
      (inr (sums (positive_count s.bc) (positive_count s.ac) (positive_count s.ab) 0 1 1 (count_none s.bc h) (count_one s.ac k) (count_one s.ab l)))
      (inl (sums (positive_count s.bc) (positive_count (neg_ℤ s.ac)) (positive_count (neg_ℤ s.ab)) 0 0 0 (count_none s.bc h) (count_none (neg_ℤ s.ac) (neg_least s.ac k)) (count_none (neg_ℤ s.ab) (neg_least s.ab l)))));
  small = none_small;
  needed = mixed_second s k (inl h);
}

-- b·c alone is, and a·c is 0
pub first_third : (s : Tensor ℤ) → pos 0 <ℤ s.bc → s.ac ≡ pos 0 → s.ab ≤ℤ pos 0 → IsGoodStep s KeepThird
first_third s h k l = record {
  falls = keep_third_orders s (smoother _ _
      (inl (sums (positive_count s.bc) (positive_count s.ac) (positive_count s.ab) 1 0 0 (count_one s.bc h) (count_none s.ac (zero_none s.ac k)) (count_none s.ab l)))
      (inl (sums (positive_count (neg_ℤ s.bc)) (positive_count (neg_ℤ s.ac)) (positive_count s.ab) 0 0 0 (count_none (neg_ℤ s.bc) (neg_least s.bc h)) (count_none (neg_ℤ s.ac) (neg_zero s.ac k)) (count_none s.ab l))));
  small = none_small;
  needed = mixed_first s h (inl (zero_none s.ac k));
}

-- b·c alone is, and a·b is 0
pub first_second : (s : Tensor ℤ) → pos 0 <ℤ s.bc → s.ac ≤ℤ pos 0 → s.ab ≡ pos 0 → IsGoodStep s KeepSecond
first_second s h k l = record {
  falls = keep_second_orders s (smoother _ _
      (inl (sums (positive_count s.bc) (positive_count s.ac) (positive_count s.ab) 1 0 0 (count_one s.bc h) (count_none s.ac k) (count_none s.ab (zero_none s.ab l))))
      (inl (sums (positive_count (neg_ℤ s.bc)) (positive_count s.ac) (positive_count (neg_ℤ s.ab)) 0 0 0 (count_none (neg_ℤ s.bc) (neg_least s.bc h)) (count_none s.ac k) (count_none (neg_ℤ s.ab) (neg_zero s.ab l)))));
  small = none_small;
  needed = mixed_first s h (inl k);
}

-- b·c alone is, and the others are negative
pub first_first : (s : Tensor ℤ) → pos 0 <ℤ s.bc → s.ac <ℤ pos 0 → s.ab <ℤ pos 0 → IsGoodStep s KeepFirst
first_first s h k l = record {
  falls = keep_first_orders s (smoother _ _
      (inl (sums (positive_count s.bc) (positive_count s.ac) (positive_count s.ab) 1 0 0 (count_one s.bc h) (count_none s.ac (below_none s.ac k)) (count_none s.ab (below_none s.ab l))))
      (inr (sums (positive_count s.bc) (positive_count (neg_ℤ s.ac)) (positive_count (neg_ℤ s.ab)) 1 1 1 (count_one s.bc h) (count_one (neg_ℤ s.ac) (neg_most s.ac k)) (count_one (neg_ℤ s.ab) (neg_most s.ab l)))));
  small = none_small;
  needed = mixed_first s h (inl (below_none s.ac k));
}

-- a·c alone is, and b·c is 0
pub second_third : (s : Tensor ℤ) → s.bc ≡ pos 0 → pos 0 <ℤ s.ac → s.ab ≤ℤ pos 0 → IsGoodStep s KeepThird
second_third s h k l = record {
  falls = keep_third_orders s (smoother _ _
      (inl (sums (positive_count s.bc) (positive_count s.ac) (positive_count s.ab) 0 1 0 (count_none s.bc (zero_none s.bc h)) (count_one s.ac k) (count_none s.ab l)))
      (inl (sums (positive_count (neg_ℤ s.bc)) (positive_count (neg_ℤ s.ac)) (positive_count s.ab) 0 0 0 (count_none (neg_ℤ s.bc) (neg_zero s.bc h)) (count_none (neg_ℤ s.ac) (neg_least s.ac k)) (count_none s.ab l))));
  small = none_small;
  needed = mixed_second s k (inl (zero_none s.bc h));
}

-- a·c alone is, and a·b is 0
pub second_first : (s : Tensor ℤ) → s.bc ≤ℤ pos 0 → pos 0 <ℤ s.ac → s.ab ≡ pos 0 → IsGoodStep s KeepFirst
second_first s h k l = record {
  falls = keep_first_orders s (smoother _ _
      (inl (sums (positive_count s.bc) (positive_count s.ac) (positive_count s.ab) 0 1 0 (count_none s.bc h) (count_one s.ac k) (count_none s.ab (zero_none s.ab l))))
      (inl (sums (positive_count s.bc) (positive_count (neg_ℤ s.ac)) (positive_count (neg_ℤ s.ab)) 0 0 0 (count_none s.bc h) (count_none (neg_ℤ s.ac) (neg_least s.ac k)) (count_none (neg_ℤ s.ab) (neg_zero s.ab l)))));
  small = none_small;
  needed = mixed_second s k (inl h);
}

-- a·c alone is, and the others are negative
pub second_second : (s : Tensor ℤ) → s.bc <ℤ pos 0 → pos 0 <ℤ s.ac → s.ab <ℤ pos 0 → IsGoodStep s KeepSecond
second_second s h k l = record {
  falls = keep_second_orders s (smoother _ _
      (inl (sums (positive_count s.bc) (positive_count s.ac) (positive_count s.ab) 0 1 0 (count_none s.bc (below_none s.bc h)) (count_one s.ac k) (count_none s.ab (below_none s.ab l))))
      (inr (sums (positive_count (neg_ℤ s.bc)) (positive_count s.ac) (positive_count (neg_ℤ s.ab)) 1 1 1 (count_one (neg_ℤ s.bc) (neg_most s.bc h)) (count_one s.ac k) (count_one (neg_ℤ s.ab) (neg_most s.ab l)))));
  small = none_small;
  needed = mixed_second s k (inl (below_none s.bc h));
}

-- a·b alone is, and b·c is 0
pub third_second : (s : Tensor ℤ) → s.bc ≡ pos 0 → s.ac ≤ℤ pos 0 → pos 0 <ℤ s.ab → IsGoodStep s KeepSecond
third_second s h k l = record {
  falls = keep_second_orders s (smoother _ _
      (inl (sums (positive_count s.bc) (positive_count s.ac) (positive_count s.ab) 0 0 1 (count_none s.bc (zero_none s.bc h)) (count_none s.ac k) (count_one s.ab l)))
      (inl (sums (positive_count (neg_ℤ s.bc)) (positive_count s.ac) (positive_count (neg_ℤ s.ab)) 0 0 0 (count_none (neg_ℤ s.bc) (neg_zero s.bc h)) (count_none s.ac k) (count_none (neg_ℤ s.ab) (neg_least s.ab l)))));
  small = none_small;
  needed = mixed_third s l (inl (zero_none s.bc h));
}

-- a·b alone is, and a·c is 0
pub third_first : (s : Tensor ℤ) → s.bc ≤ℤ pos 0 → s.ac ≡ pos 0 → pos 0 <ℤ s.ab → IsGoodStep s KeepFirst
third_first s h k l = record {
  falls = keep_first_orders s (smoother _ _
      (inl (sums (positive_count s.bc) (positive_count s.ac) (positive_count s.ab) 0 0 1 (count_none s.bc h) (count_none s.ac (zero_none s.ac k)) (count_one s.ab l)))
      (inl (sums (positive_count s.bc) (positive_count (neg_ℤ s.ac)) (positive_count (neg_ℤ s.ab)) 0 0 0 (count_none s.bc h) (count_none (neg_ℤ s.ac) (neg_zero s.ac k)) (count_none (neg_ℤ s.ab) (neg_least s.ab l)))));
  small = none_small;
  needed = mixed_third s l (inl h);
}

-- a·b alone is, and the others are negative
pub third_third : (s : Tensor ℤ) → s.bc <ℤ pos 0 → s.ac <ℤ pos 0 → pos 0 <ℤ s.ab → IsGoodStep s KeepThird
third_third s h k l = record {
  falls = keep_third_orders s (smoother _ _
      (inl (sums (positive_count s.bc) (positive_count s.ac) (positive_count s.ab) 0 0 1 (count_none s.bc (below_none s.bc h)) (count_none s.ac (below_none s.ac k)) (count_one s.ab l)))
      (inr (sums (positive_count (neg_ℤ s.bc)) (positive_count (neg_ℤ s.ac)) (positive_count s.ab) 1 1 1 (count_one (neg_ℤ s.bc) (neg_most s.bc h)) (count_one (neg_ℤ s.ac) (neg_most s.ac k)) (count_one s.ab l))));
  small = none_small;
  needed = mixed_third s l (inl (below_none s.bc h));
}
