-- Each step of the choice brings the metric tensor nearer to the conditions. Letters as in [KG76], steps in its numbers.
--
-- N1, N2 with unequal lengths lower 2A + B. The main parts of N5, N6, N7 and N8 lower A + B + C. The reversals of N3 and N4
-- leave all but the signs. The equality parts are these. N1, N2 between equal lengths raise |ξ| + 2|η| + 3|ζ|. N5 to N7 at
-- ξ = B, η = A or ζ = A (form I) make two products negative, which keeps the sign of their product, and raise that sum.
-- N5 to N7 at the negatives (form II) make the product of the three positive. N8 at excess 0 leaves none or two of them
-- positive, and raises that sum by 2(A + η) + ζ; this needs the main conditions, so it comes last.
--   shrinks                      the nearest multiple shortens
--   exchange_first_larger ..     one lemma for each step and reason
use Rattle.std.proofs.Common.{◌≡◌, zero, suc, ◌<◌, [], ◌∷◌, ℤ, pos, negsuc, ◌+ℤ◌, ◌*ℤ◌, neg_ℤ, ◌≤ℤ◌, ◌<ℤ◌, refl, sym, ◌∙◌, ap, subst, arith}
use Rattle.std.proofs.lemmas.Int.{ints}
use Rattle.ring.specs.Ring.{int_ops, var, opposite, ◌:+◌, ◌:*◌, ◌:-◌}
use Rattle.ring.proofs.IntOrder.{mul_pos, mul_nonneg}
use Rattle.crystal_spec.proofs.Identities.{by_integers}
use Rattle.lattice_spec.specs.Tensor.{Tensor}
use Rattle.lattice_spec.specs.Niggli.{size, twice, IsAcute, IsObtuse}
use Rattle.lattice_reduce.specs.Parts.{sum_excess}
use Rattle.lattice_reduce.specs.Steps.{exchange_first, exchange_last, keep_first, keep_second, keep_third, second_less_first, third_less_second, third_less_first, add_to_third}
use Rattle.lattice_reduce.specs.Progress.{positive_count, mixed_signs, Falls, trace_falls, weight_falls, form_rises, sizes_rise, mixed_falls}

-- ---- N1, N2

-- where A > B
pub exchange_first_larger : (s : Tensor ℤ) → s.bb <ℤ s.aa → Falls s (exchange_first int_ops s)
exchange_first_larger s h = weight_falls (omega (arith, ints)) (omega (arith, ints))

-- where B > C
pub exchange_last_larger : (s : Tensor ℤ) → s.cc <ℤ s.bb → Falls s (exchange_last int_ops s)
exchange_last_larger s h = weight_falls (omega (arith, ints)) (omega (arith, ints))

swap-product : (x y z : ℤ) → y *ℤ x *ℤ z ≡ x *ℤ y *ℤ z
swap-product x y z = by_integers (x ∷ y ∷ z ∷ []) (var 1 :* var 0 :* var 2) (var 0 :* var 1 :* var 2) refl

swap-product' : (x y z : ℤ) → x *ℤ z *ℤ y ≡ x *ℤ y *ℤ z
swap-product' x y z = by_integers (x ∷ y ∷ z ∷ []) (var 0 :* var 2 :* var 1) (var 0 :* var 1 :* var 2) refl

sizes_swap : (x y z : ℤ) → size y <ℤ size x → (size x +ℤ twice (size y) +ℤ z) <ℤ (size y +ℤ twice (size x) +ℤ z)
sizes_swap x y z h = omega (arith, ints)

sizes_swap' : (x y z : ℤ) → size z <ℤ size y → (x +ℤ twice (size y) +ℤ (twice (size z) +ℤ size z)) <ℤ (x +ℤ twice (size z) +ℤ (twice (size y) +ℤ size y))
sizes_swap' x y z h = omega (arith, ints)

-- where A = B and |ξ| > |η|
pub exchange_first_equal : (s : Tensor ℤ) → s.aa ≡ s.bb → size s.ac <ℤ size s.bc → Falls s (exchange_first int_ops s)
exchange_first_equal s e h =
    sizes_rise (omega (arith, ints, e)) (omega (arith, ints, e)) (ap positive_count (swap-product s.bc s.ac s.ab)) (sizes_swap s.bc s.ac (twice (size s.ab) +ℤ size s.ab) h)

-- where B = C and |η| > |ζ|
pub exchange_last_equal : (s : Tensor ℤ) → s.bb ≡ s.cc → size s.ab <ℤ size s.ac → Falls s (exchange_last int_ops s)
exchange_last_equal s e h =
    sizes_rise (omega (arith, ints, e)) (omega (arith, ints, e)) (ap positive_count (swap-product' s.bc s.ac s.ab)) (sizes_swap' (size s.bc) s.ac s.ab h)

-- ---- the main parts of N5, N6, N7: the nearest multiple is taken off

shrink-product : (a n k : ℤ) → a *ℤ (k *ℤ ((n +ℤ k *ℤ a) +ℤ n)) ≡ ((n +ℤ k *ℤ a) +ℤ neg_ℤ n) *ℤ ((n +ℤ k *ℤ a) +ℤ n)
shrink-product a n k =
    by_integers (a ∷ n ∷ k ∷ []) (var 0 :* (var 2 :* ((var 1 :+ var 2 :* var 0) :+ var 1))) (((var 1 :+ var 2 :* var 0) :- var 1) :* ((var 1 :+ var 2 :* var 0) :+ var 1)) refl

negated-product : (m n : ℤ) → (neg_ℤ m +ℤ n) *ℤ (neg_ℤ m +ℤ neg_ℤ n) ≡ (m +ℤ neg_ℤ n) *ℤ (m +ℤ n)
negated-product m n =
    by_integers (m ∷ n ∷ []) ((opposite (var 0) :+ var 1) :* (opposite (var 0) :- var 1)) ((var 0 :- var 1) :* (var 0 :+ var 1)) refl

-- a positive factor of a positive product has a positive cofactor
pub pos_of_mul : (a x : ℤ) → pos 0 <ℤ a → pos 0 <ℤ (a *ℤ x) → pos 0 <ℤ x
pos_of_mul a (pos (suc n)) p h = omega (arith, ints)
pos_of_mul a (pos zero) p h = absurd (omega (arith, ints))
pos_of_mul (pos zero) (negsuc n) p h = absurd p.lt
pos_of_mul (pos (suc a)) (negsuc n) p h = absurd (omega (arith, ints))
pos_of_mul (negsuc a) (negsuc n) p h = absurd p.lt

squares_differ : (m n : ℤ) → size n <ℤ size m → pos 0 <ℤ ((m +ℤ neg_ℤ n) *ℤ (m +ℤ n))
squares_differ (pos m) n h =
    let p : pos 0 <ℤ (pos m +ℤ neg_ℤ n) = omega (arith, ints) in
    let q : pos 0 <ℤ (pos m +ℤ n) = omega (arith, ints) in
    mul_pos _ _ p q
squares_differ (negsuc m) n h =
    let p : pos 0 <ℤ (neg_ℤ (negsuc m) +ℤ n) = omega (arith, ints) in
    let q : pos 0 <ℤ (neg_ℤ (negsuc m) +ℤ neg_ℤ n) = omega (arith, ints) in
    rw (sym (negated-product (negsuc m) n)) (mul_pos _ _ p q)

shorter : (a m n : ℤ) → size (twice n) ≤ℤ a → a <ℤ size (twice m) → size n <ℤ size m
shorter a m n h k = omega (arith, ints)

shrinks-at : (a n k : ℤ) → pos 0 <ℤ a → size (twice n) ≤ℤ a → a <ℤ size (twice (n +ℤ k *ℤ a)) → pos 0 <ℤ (k *ℤ ((n +ℤ k *ℤ a) +ℤ n))
shrinks-at a n k p h l = pos_of_mul a _ p (rw (shrink-product a n k) (squares_differ (n +ℤ k *ℤ a) n (shorter a (n +ℤ k *ℤ a) n h l)))

put_back : (m k : ℤ) → (m +ℤ neg_ℤ k) +ℤ k ≡ m
put_back m k = omega (arith, ints)

-- with n = m - k a, |2n| ≤ a < |2m| gives k (m + n) > 0, since a k (m + n) = m² - n²
pub shrinks : (a m k : ℤ) → pos 0 <ℤ a → size (twice (m +ℤ neg_ℤ (k *ℤ a))) ≤ℤ a → a <ℤ size (twice m) → pos 0 <ℤ (k *ℤ (m +ℤ (m +ℤ neg_ℤ (k *ℤ a))))
shrinks a m k p h l =
    subst (λ (x : ℤ). pos 0 <ℤ (k *ℤ (x +ℤ (m +ℤ neg_ℤ (k *ℤ a))))) (put_back m (k *ℤ a)) (shrinks-at a (m +ℤ neg_ℤ (k *ℤ a)) k p h (subst (λ (x : ℤ). a <ℤ size (twice x)) (sym (put_back m (k *ℤ a))) l))

less_second : (a b c d : ℤ) → pos 0 <ℤ d → (a +ℤ (b +ℤ neg_ℤ d) +ℤ c) <ℤ (a +ℤ b +ℤ c)
less_second a b c d h = omega (arith, ints)

less_third : (a b c d : ℤ) → pos 0 <ℤ d → (a +ℤ b +ℤ (c +ℤ neg_ℤ d)) <ℤ (a +ℤ b +ℤ c)
less_third a b c d h = omega (arith, ints)

-- where |ζ| > A
pub second_less_first_main : (s : Tensor ℤ) (k : ℤ) → pos 0 <ℤ s.aa → size (twice (s.ab +ℤ neg_ℤ (k *ℤ s.aa))) ≤ℤ s.aa → s.aa <ℤ size (twice s.ab) → Falls s (second_less_first int_ops k s)
second_less_first_main s k p h l = trace_falls (less_second s.aa s.bb s.cc _ (shrinks s.aa s.ab k p h l))

-- where |ξ| > B
pub third_less_second_main : (s : Tensor ℤ) (k : ℤ) → pos 0 <ℤ s.bb → size (twice (s.bc +ℤ neg_ℤ (k *ℤ s.bb))) ≤ℤ s.bb → s.bb <ℤ size (twice s.bc) → Falls s (third_less_second int_ops k s)
third_less_second_main s k p h l = trace_falls (less_third s.aa s.bb s.cc _ (shrinks s.bb s.bc k p h l))

-- where |η| > A
pub third_less_first_main : (s : Tensor ℤ) (k : ℤ) → pos 0 <ℤ s.aa → size (twice (s.ac +ℤ neg_ℤ (k *ℤ s.aa))) ≤ℤ s.aa → s.aa <ℤ size (twice s.ac) → Falls s (third_less_first int_ops k s)
third_less_first_main s k p h l = trace_falls (less_third s.aa s.bb s.cc _ (shrinks s.aa s.ac k p h l))

-- the main part of N8: where the excess is negative
pub add_to_third_main : (s : Tensor ℤ) → sum_excess s.aa s.bb (twice s.bc) (twice s.ac) (twice s.ab) <ℤ pos 0 → Falls s (add_to_third int_ops s)
add_to_third_main s h = trace_falls (omega (arith, ints))

-- ---- N3, N4

after_step-product : (x y z : ℤ) → x *ℤ neg_ℤ y *ℤ neg_ℤ z ≡ x *ℤ y *ℤ z
after_step-product x y z = by_integers (x ∷ y ∷ z ∷ []) (var 0 :* opposite (var 1) :* opposite (var 2)) (var 0 :* var 1 :* var 2) refl

after_step-product' : (x y z : ℤ) → neg_ℤ x *ℤ y *ℤ neg_ℤ z ≡ x *ℤ y *ℤ z
after_step-product' x y z = by_integers (x ∷ y ∷ z ∷ []) (opposite (var 0) :* var 1 :* opposite (var 2)) (var 0 :* var 1 :* var 2) refl

after_step-product'' : (x y z : ℤ) → neg_ℤ x *ℤ neg_ℤ y *ℤ z ≡ x *ℤ y *ℤ z
after_step-product'' x y z = by_integers (x ∷ y ∷ z ∷ []) (opposite (var 0) :* opposite (var 1) :* var 2) (var 0 :* var 1 :* var 2) refl

size-neg : (x : ℤ) → size (neg_ℤ x) ≡ size x
size-neg x = omega (arith, ints)

weighted_sizes-same : (x y z x' y' z' : ℤ) → x ≡ x' → y ≡ y' → z ≡ z' → x +ℤ twice y +ℤ (twice z +ℤ z) ≡ x' +ℤ twice y' +ℤ (twice z' +ℤ z')
weighted_sizes-same x y z x' y' z' e f g = omega (arith, ints, e, f, g)

-- a reversal lowers the last quantity alone, where it does
pub keep_first_orders : (s : Tensor ℤ) → mixed_signs (keep_first int_ops s) < mixed_signs s → Falls s (keep_first int_ops s)
keep_first_orders s h = mixed_falls refl refl (ap positive_count (after_step-product s.bc s.ac s.ab)) (weighted_sizes-same (size s.bc) (size (neg_ℤ s.ac)) (size (neg_ℤ s.ab)) (size s.bc) (size s.ac) (size s.ab) refl (size-neg s.ac) (size-neg s.ab)) h

-- likewise
pub keep_second_orders : (s : Tensor ℤ) → mixed_signs (keep_second int_ops s) < mixed_signs s → Falls s (keep_second int_ops s)
keep_second_orders s h = mixed_falls refl refl (ap positive_count (after_step-product' s.bc s.ac s.ab)) (weighted_sizes-same (size (neg_ℤ s.bc)) (size s.ac) (size (neg_ℤ s.ab)) (size s.bc) (size s.ac) (size s.ab) (size-neg s.bc) refl (size-neg s.ab)) h

-- likewise
pub keep_third_orders : (s : Tensor ℤ) → mixed_signs (keep_third int_ops s) < mixed_signs s → Falls s (keep_third int_ops s)
keep_third_orders s h = mixed_falls refl refl (ap positive_count (after_step-product'' s.bc s.ac s.ab)) (weighted_sizes-same (size (neg_ℤ s.bc)) (size (neg_ℤ s.ac)) (size s.ab) (size s.bc) (size s.ac) (size s.ab) (size-neg s.bc) (size-neg s.ac) refl) h

-- ---- the equality parts, where all three products are positive or none is

-- a positive number counts as 1
pub count_one : (a : ℤ) → pos 0 <ℤ a → positive_count a ≡ 1
count_one (pos zero) h = absurd h.lt
count_one (pos (suc n)) h = refl
count_one (negsuc n) h = absurd h.lt

-- any other as 0
pub count_none : (a : ℤ) → a ≤ℤ pos 0 → positive_count a ≡ 0
count_none (pos zero) h = refl
count_none (pos (suc n)) h = absurd (omega (arith, ints, h))
count_none (negsuc n) h = refl

product3_pos : (x y z : ℤ) → pos 0 <ℤ x → pos 0 <ℤ y → pos 0 <ℤ z → pos 0 <ℤ (x *ℤ y *ℤ z)
product3_pos x y z h k l = mul_pos _ _ (mul_pos x y h k) l

-- two negative and one positive
negatives : (x y z : ℤ) → neg_ℤ x *ℤ neg_ℤ y *ℤ z ≡ x *ℤ y *ℤ z
negatives x y z = after_step-product'' x y z

-- three positive numbers have a positive product
pub form_all : (x y z : ℤ) → pos 0 <ℤ x → pos 0 <ℤ y → pos 0 <ℤ z → positive_count (x *ℤ y *ℤ z) ≡ 1
form_all x y z h k l = count_one _ (product3_pos x y z h k l)

-- and so have two negative ones and a positive one, in each order
pub form_third : (x y z : ℤ) → x <ℤ pos 0 → y <ℤ pos 0 → pos 0 <ℤ z → positive_count (x *ℤ y *ℤ z) ≡ 1
form_third x y z h k l =
    let p : pos 0 <ℤ neg_ℤ x = omega (arith, ints) in
    let q : pos 0 <ℤ neg_ℤ y = omega (arith, ints) in
    rw (sym (after_step-product'' x y z)) (form_all (neg_ℤ x) (neg_ℤ y) z p q l)

-- likewise
pub form_second : (x y z : ℤ) → x <ℤ pos 0 → pos 0 <ℤ y → z <ℤ pos 0 → positive_count (x *ℤ y *ℤ z) ≡ 1
form_second x y z h k l =
    let p : pos 0 <ℤ neg_ℤ x = omega (arith, ints) in
    let q : pos 0 <ℤ neg_ℤ z = omega (arith, ints) in
    rw (sym (after_step-product' x y z)) (form_all (neg_ℤ x) y (neg_ℤ z) p k q)

-- likewise
pub form_first : (x y z : ℤ) → pos 0 <ℤ x → y <ℤ pos 0 → z <ℤ pos 0 → positive_count (x *ℤ y *ℤ z) ≡ 1
form_first x y z h k l =
    let p : pos 0 <ℤ neg_ℤ y = omega (arith, ints) in
    let q : pos 0 <ℤ neg_ℤ z = omega (arith, ints) in
    rw (sym (after_step-product x y z)) (form_all x (neg_ℤ y) (neg_ℤ z) h p q)

-- none positive, or the third alone not
nonneg_product : (x y z : ℤ) → pos 0 ≤ℤ x → pos 0 ≤ℤ y → z ≤ℤ pos 0 → (x *ℤ y *ℤ z) ≤ℤ pos 0
nonneg_product x y z h k l =
    let p : pos 0 ≤ℤ neg_ℤ z = omega (arith, ints) in
    let q : pos 0 ≤ℤ (x *ℤ y *ℤ neg_ℤ z) = mul_nonneg _ _ (mul_nonneg x y h k) p in
    flip _ _ (by_integers (x ∷ y ∷ z ∷ []) (var 0 :* var 1 :* opposite (var 2)) (opposite (var 0 :* var 1 :* var 2)) refl) q
  where
    flip : (a b : ℤ) → b ≡ neg_ℤ a → pos 0 ≤ℤ b → a ≤ℤ pos 0
    flip a b e h = omega (arith, ints)

-- three numbers that are not positive have no positive product
pub form_none : (x y z : ℤ) → x ≤ℤ pos 0 → y ≤ℤ pos 0 → z ≤ℤ pos 0 → positive_count (x *ℤ y *ℤ z) ≡ 0
form_none x y z h k l =
    let p : pos 0 ≤ℤ neg_ℤ x = omega (arith, ints) in
    let q : pos 0 ≤ℤ neg_ℤ y = omega (arith, ints) in
    count_none _ (rw (sym (after_step-product'' x y z)) (nonneg_product (neg_ℤ x) (neg_ℤ y) z p q l))

-- nor have two that are not negative and one that is not positive
pub form_third_not : (x y z : ℤ) → pos 0 ≤ℤ x → pos 0 ≤ℤ y → z ≤ℤ pos 0 → positive_count (x *ℤ y *ℤ z) ≡ 0
form_third_not x y z h k l = count_none _ (nonneg_product x y z h k l)

-- N5, where ξ = B
pub third_less_second_edge : (s : Tensor ℤ) → IsAcute s.bc s.ac s.ab → twice s.bc ≡ s.bb → twice (twice s.ac) <ℤ twice s.ab → Falls s (third_less_second int_ops (pos 1) s)
third_less_second_edge s p e h =
    let m : (s.bc +ℤ neg_ℤ (pos 1 *ℤ s.bb)) <ℤ pos 0 = omega (arith, ints, e, p.x_positive) in
    let n : (s.ac +ℤ neg_ℤ (pos 1 *ℤ s.ab)) <ℤ pos 0 = omega (arith, ints, p.y_positive, h) in
    sizes_rise (omega (arith, ints, e)) refl
    (form_third _ _ _ m n p.z_positive ∙ sym (form_all _ _ _ p.x_positive p.y_positive p.z_positive))
    (omega (arith, ints, e, p.x_positive, p.y_positive, p.z_positive, h))

-- N5, where ξ = -B
pub third_less_second_edge' : (s : Tensor ℤ) → IsObtuse s.bc s.ac s.ab → pos 0 <ℤ s.bb → twice s.bc ≡ neg_ℤ s.bb → s.ab <ℤ pos 0 → Falls s (third_less_second int_ops (negsuc 0) s)
third_less_second_edge' s p b e h =
    let m : pos 0 <ℤ (s.bc +ℤ neg_ℤ (negsuc 0 *ℤ s.bb)) = omega (arith, ints, e, b) in
    let n : (s.ac +ℤ neg_ℤ (negsuc 0 *ℤ s.ab)) <ℤ pos 0 = omega (arith, ints, p.y_at_most_0, h) in
    form_rises (omega (arith, ints, e)) refl
    (rw (form_first _ _ _ m n h, form_none _ _ _ p.x_at_most_0 p.y_at_most_0 p.z_at_most_0) (omega arith))

-- N6, where η = A
pub third_less_first_edge : (s : Tensor ℤ) → IsAcute s.bc s.ac s.ab → twice s.ac ≡ s.aa → twice (twice s.bc) <ℤ twice s.ab → Falls s (third_less_first int_ops (pos 1) s)
third_less_first_edge s p e h =
    let m : (s.bc +ℤ neg_ℤ (pos 1 *ℤ s.ab)) <ℤ pos 0 = omega (arith, ints, p.x_positive, h) in
    let n : (s.ac +ℤ neg_ℤ (pos 1 *ℤ s.aa)) <ℤ pos 0 = omega (arith, ints, p.y_positive, e) in
    sizes_rise (omega (arith, ints, e)) refl
    (form_third _ _ _ m n p.z_positive ∙ sym (form_all _ _ _ p.x_positive p.y_positive p.z_positive))
    (omega (arith, ints, e, p.x_positive, p.y_positive, p.z_positive, h))

-- N6, where η = -A
pub third_less_first_edge' : (s : Tensor ℤ) → IsObtuse s.bc s.ac s.ab → pos 0 <ℤ s.aa → twice s.ac ≡ neg_ℤ s.aa → s.ab <ℤ pos 0 → Falls s (third_less_first int_ops (negsuc 0) s)
third_less_first_edge' s p a e h =
    let m : (s.bc +ℤ neg_ℤ (negsuc 0 *ℤ s.ab)) <ℤ pos 0 = omega (arith, ints, p.x_at_most_0, h) in
    let n : pos 0 <ℤ (s.ac +ℤ neg_ℤ (negsuc 0 *ℤ s.aa)) = omega (arith, ints, a, e) in
    form_rises (omega (arith, ints, e)) refl
    (rw (form_second _ _ _ m n h, form_none _ _ _ p.x_at_most_0 p.y_at_most_0 p.z_at_most_0) (omega arith))

-- N7, where ζ = A
pub second_less_first_edge : (s : Tensor ℤ) → IsAcute s.bc s.ac s.ab → twice s.ab ≡ s.aa → twice (twice s.bc) <ℤ twice s.ac → Falls s (second_less_first int_ops (pos 1) s)
second_less_first_edge s p e h =
    let m : (s.bc +ℤ neg_ℤ (pos 1 *ℤ s.ac)) <ℤ pos 0 = omega (arith, ints, p.x_positive, h) in
    let n : (s.ab +ℤ neg_ℤ (pos 1 *ℤ s.aa)) <ℤ pos 0 = omega (arith, ints, p.z_positive, e) in
    sizes_rise (omega (arith, ints, e)) (omega (arith, ints, e))
    (form_second _ _ _ m p.y_positive n ∙ sym (form_all _ _ _ p.x_positive p.y_positive p.z_positive))
    (omega (arith, ints, e, p.x_positive, p.y_positive, p.z_positive, h))

-- N7, where ζ = -A
pub second_less_first_edge' : (s : Tensor ℤ) → IsObtuse s.bc s.ac s.ab → pos 0 <ℤ s.aa → twice s.ab ≡ neg_ℤ s.aa → s.ac <ℤ pos 0 → Falls s (second_less_first int_ops (negsuc 0) s)
second_less_first_edge' s p a e h =
    let m : (s.bc +ℤ neg_ℤ (negsuc 0 *ℤ s.ac)) <ℤ pos 0 = omega (arith, ints, p.x_at_most_0, h) in
    let n : pos 0 <ℤ (s.ab +ℤ neg_ℤ (negsuc 0 *ℤ s.aa)) = omega (arith, ints, a, e) in
    form_rises (omega (arith, ints, e)) (omega (arith, ints, e))
    (rw (form_third _ _ _ m h n, form_none _ _ _ p.x_at_most_0 p.y_at_most_0 p.z_at_most_0) (omega arith))

-- N8, where the excess is 0
pub add_to_third_edge : (s : Tensor ℤ) → IsObtuse s.bc s.ac s.ab → size (twice s.bc) ≤ℤ s.bb → size (twice s.ac) ≤ℤ s.aa → size (twice s.ab) ≤ℤ s.aa → s.aa ≤ℤ s.bb →
    sum_excess s.aa s.bb (twice s.bc) (twice s.ac) (twice s.ab) ≡ pos 0 → pos 0 <ℤ (twice (s.aa +ℤ twice s.ac) +ℤ twice s.ab) → Falls s (add_to_third int_ops s)
add_to_third_edge s p x y z o e h =
    let m : pos 0 ≤ℤ (s.bb +ℤ s.bc +ℤ s.ab) = omega (arith, ints, e, y, z, p.y_at_most_0, o) in
    let n : pos 0 ≤ℤ (s.aa +ℤ s.ac +ℤ s.ab) = omega (arith, ints, e, x, o) in
    let r : size (s.bb +ℤ s.bc +ℤ s.ab) ≡ s.bb +ℤ s.bc +ℤ s.ab = omega (arith, ints, m) in
    let t : size (s.aa +ℤ s.ac +ℤ s.ab) ≡ s.aa +ℤ s.ac +ℤ s.ab = omega (arith, ints, n) in
    let u : size s.bc ≡ neg_ℤ s.bc = omega (arith, ints, p.x_at_most_0) in
    let v : size s.ac ≡ neg_ℤ s.ac = omega (arith, ints, p.y_at_most_0) in
    sizes_rise (omega (arith, ints, e)) refl
    (form_third_not _ _ _ m n p.z_at_most_0 ∙ sym (form_none _ _ _ p.x_at_most_0 p.y_at_most_0 p.z_at_most_0))
    (rises (size s.bc) (size s.ac) (size (s.bb +ℤ s.bc +ℤ s.ab)) (size (s.aa +ℤ s.ac +ℤ s.ab)) (size s.ab) s.aa s.bb s.bc s.ac s.ab u v r t e h)
  where
    rises : (x y x' y' z a b bc ac ab : ℤ) → x ≡ neg_ℤ bc → y ≡ neg_ℤ ac → x' ≡ b +ℤ bc +ℤ ab → y' ≡ a +ℤ ac +ℤ ab →
        sum_excess a b (twice bc) (twice ac) (twice ab) ≡ pos 0 → pos 0 <ℤ (twice (a +ℤ twice ac) +ℤ twice ab) →
        (x +ℤ twice y +ℤ (twice z +ℤ z)) <ℤ (x' +ℤ twice y' +ℤ (twice z +ℤ z))
    rises x y x' y' z a b bc ac ab e f g h i j = omega (arith, ints, e, f, g, h, i, j)
