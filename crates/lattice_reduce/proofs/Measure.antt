-- One natural number that each step lowers.
--   measure s        the five quantities of `Falls` in their order, each with a weight above all that the later ones can do
--   Bounded s        how large the five are
--   falls-measure    what is nearer to the conditions has a lower measure
use Rattle.std.proofs.Common.{◌≡◌, ℕ, zero, suc, ◌+◌, ◌-◌, ◌<◌, ◌≤◌, ◌*◌, ◌^◌, ℤ, pos, negsuc, ◌+ℤ◌, ◌*ℤ◌, unsigned_abs, ◌≤ℤ◌, ◌<ℤ◌, ap, arith}
use Rattle.std.proofs.lemmas.Int.{ints}
use Rattle.lattice_spec.specs.Tensor.{Tensor}
use Rattle.lattice_spec.specs.Niggli.{size, twice}
use Rattle.lattice_spec.proofs.Definite.{IsDefinite, aa_positive, bb_positive, cc_positive, bc_most, ac_most, ab_most}
use Rattle.lattice_reduce.specs.Progress.{positive_count, mixed_count, trace, leading_weight, acute_form, weighted_sizes, mixed_signs, positives, Falls, trace_falls, weight_falls, form_rises, sizes_rise, mixed_falls}

abbrev number : ℕ → ℕ → ℕ → ℕ → ℕ → ℕ
number t w f s r = t * (2 * 10 ^ 36) + w * (4 * 10 ^ 18) + (1 - f) * (2 * 10 ^ 18) + (3 * t - s) * 2 + r

-- the five in their order, as one number
abbrev pub measure : Tensor ℤ → ℕ
measure s = number (unsigned_abs (trace s)) (unsigned_abs (leading_weight s)) (acute_form s) (unsigned_abs (weighted_sizes s)) (mixed_signs s)

-- how large the five are, where squared lengths are positive and at most 10^17 together
pub record Bounded (s : Tensor ℤ) : Type 0 where
  pub trace_least : pos 0 ≤ℤ trace s
  pub trace_most : trace s ≤ℤ pos (10 ^ 17)
  pub weight_least : pos 0 ≤ℤ leading_weight s
  pub weight_most : leading_weight s ≤ℤ pos (2 * 10 ^ 17)
  pub sizes_most : weighted_sizes s ≤ℤ pos (3 * unsigned_abs (trace s))

bounded_by : (a b c x y z : ℤ) → pos 0 <ℤ a → pos 0 <ℤ b → pos 0 <ℤ c → pos (unsigned_abs (x +ℤ x)) ≤ℤ (b +ℤ c) → pos (unsigned_abs (y +ℤ y)) ≤ℤ (a +ℤ c) → pos (unsigned_abs (z +ℤ z)) ≤ℤ (a +ℤ b) →
    (size x +ℤ twice (size y) +ℤ (twice (size z) +ℤ size z)) ≤ℤ pos (3 * unsigned_abs (a +ℤ b +ℤ c))
bounded_by a b c x y z h k l u v w = omega (arith, ints)

-- they are so for a definite metric
pub bounded : (s : Tensor ℤ) → IsDefinite s → trace s ≤ℤ pos (10 ^ 17) → Bounded s
bounded s d h =
    let p = aa_positive s d in
    let q = bb_positive s d in
    let r = cc_positive s d in
    record {
      trace_least = omega (arith, ints, p, q, r);
      trace_most = h;
      weight_least = omega (arith, ints, p, q);
      weight_most = omega (arith, ints, p, q, r, h);
      sizes_most = bounded_by s.aa s.bb s.cc s.bc s.ac s.ab p q r (bc_most s d) (ac_most s d) (ab_most s d);
    }

count-most : (z : ℤ) → positive_count z ≤ 1
count-most (pos zero) = omega arith
count-most (pos (suc n)) = omega arith
count-most (negsuc n) = omega arith

mixed-most : (n : ℕ) → mixed_count n ≤ 1
mixed-most zero = omega arith
mixed-most (suc zero) = omega arith
mixed-most (suc (suc zero)) = omega arith
mixed-most (suc (suc (suc n))) = omega arith

number_trace : (t w f s r t' w' f' s' r' : ℕ) → t' < t → w' ≤ 2 * 10 ^ 17 → t' ≤ 10 ^ 17 → r' ≤ 1 → number t' w' f' s' r' < number t w f s r
number_trace t w f s r t' w' f' s' r' h k l m = omega arith

number_weight : (t w f s r t' w' f' s' r' : ℕ) → t' ≡ t → w' < w → t ≤ 10 ^ 17 → r' ≤ 1 → number t' w' f' s' r' < number t w f s r
number_weight t w f s r t' w' f' s' r' d h k m = omega arith

number_form : (t w f s r t' w' f' s' r' : ℕ) → t' ≡ t → w' ≡ w → f < f' → f' ≤ 1 → t ≤ 10 ^ 17 → r' ≤ 1 → number t' w' f' s' r' < number t w f s r
number_form t w f s r t' w' f' s' r' d e h k l m = omega arith

number_sizes : (t w f s r t' w' f' s' r' : ℕ) → t' ≡ t → w' ≡ w → f' ≡ f → s < s' → s' ≤ 3 * t' → r' ≤ 1 → number t' w' f' s' r' < number t w f s r
number_sizes t w f s r t' w' f' s' r' d e g h k m = omega arith

number_rough : (t w f s r t' w' f' s' r' : ℕ) → t' ≡ t → w' ≡ w → f' ≡ f → s' ≡ s → r' < r → number t' w' f' s' r' < number t w f s r
number_rough t w f s r t' w' f' s' r' d e g i h = omega arith

abs-less : (a b : ℤ) → pos 0 ≤ℤ a → a <ℤ b → unsigned_abs a < unsigned_abs b
abs-less a b h k = omega (arith, ints)

abs-most : (a : ℤ) (n : ℕ) → pos 0 ≤ℤ a → a ≤ℤ pos n → unsigned_abs a ≤ n
abs-most a n h k = omega (arith, ints)

sizes-nonneg : (x y z : ℕ) → pos 0 ≤ℤ (pos x +ℤ twice (pos y) +ℤ (twice (pos z) +ℤ pos z))
sizes-nonneg x y z = omega (arith, ints)

-- what is nearer to the conditions has a lower measure
pub falls-measure : (s t : Tensor ℤ) → Bounded s → Bounded t → Falls s t → measure t < measure s
falls-measure s t b c (trace_falls h) =
    number_trace (unsigned_abs (trace s)) (unsigned_abs (leading_weight s)) (acute_form s) (unsigned_abs (weighted_sizes s)) (mixed_signs s)
    (unsigned_abs (trace t)) (unsigned_abs (leading_weight t)) (acute_form t) (unsigned_abs (weighted_sizes t)) (mixed_signs t)
    (abs-less (trace t) (trace s) c.trace_least h) (abs-most (leading_weight t) (2 * 10 ^ 17) c.weight_least c.weight_most)
    (abs-most (trace t) (10 ^ 17) c.trace_least c.trace_most) (mixed-most (positives t))
falls-measure s t b c (weight_falls e h) =
    number_weight (unsigned_abs (trace s)) (unsigned_abs (leading_weight s)) (acute_form s) (unsigned_abs (weighted_sizes s)) (mixed_signs s)
    (unsigned_abs (trace t)) (unsigned_abs (leading_weight t)) (acute_form t) (unsigned_abs (weighted_sizes t)) (mixed_signs t)
    (ap unsigned_abs e) (abs-less (leading_weight t) (leading_weight s) c.weight_least h) (abs-most (trace s) (10 ^ 17) b.trace_least b.trace_most) (mixed-most (positives t))
falls-measure s t b c (form_rises e f h) =
    number_form (unsigned_abs (trace s)) (unsigned_abs (leading_weight s)) (acute_form s) (unsigned_abs (weighted_sizes s)) (mixed_signs s)
    (unsigned_abs (trace t)) (unsigned_abs (leading_weight t)) (acute_form t) (unsigned_abs (weighted_sizes t)) (mixed_signs t)
    (ap unsigned_abs e) (ap unsigned_abs f) h (count-most (t.bc *ℤ t.ac *ℤ t.ab)) (abs-most (trace s) (10 ^ 17) b.trace_least b.trace_most) (mixed-most (positives t))
falls-measure s t b c (sizes_rise e f g h) =
    let n : pos 0 ≤ℤ weighted_sizes s = sizes-nonneg (unsigned_abs s.bc) (unsigned_abs s.ac) (unsigned_abs s.ab) in
    let m : pos 0 ≤ℤ weighted_sizes t = sizes-nonneg (unsigned_abs t.bc) (unsigned_abs t.ac) (unsigned_abs t.ab) in
    number_sizes (unsigned_abs (trace s)) (unsigned_abs (leading_weight s)) (acute_form s) (unsigned_abs (weighted_sizes s)) (mixed_signs s)
    (unsigned_abs (trace t)) (unsigned_abs (leading_weight t)) (acute_form t) (unsigned_abs (weighted_sizes t)) (mixed_signs t)
    (ap unsigned_abs e) (ap unsigned_abs f) g (abs-less (weighted_sizes s) (weighted_sizes t) n h) (abs-most (weighted_sizes t) (3 * unsigned_abs (trace t)) m c.sizes_most) (mixed-most (positives t))
falls-measure s t b c (mixed_falls e f g h k) =
    number_rough (unsigned_abs (trace s)) (unsigned_abs (leading_weight s)) (acute_form s) (unsigned_abs (weighted_sizes s)) (mixed_signs s)
    (unsigned_abs (trace t)) (unsigned_abs (leading_weight t)) (acute_form t) (unsigned_abs (weighted_sizes t)) (mixed_signs t)
    (ap unsigned_abs e) (ap unsigned_abs f) g (ap unsigned_abs h) k
