-- Lowest terms exist and are unique, and sums, products, quotients and reciprocals are in lowest terms.
--   lowest_parts      n and d are a positive multiple of their lowest terms
--   lowest_is         the lowest terms are in lowest terms
--   lowest_unique     two fractions in lowest terms with one cross product are one
--   lowest_same       two pairs with one cross product have the same lowest terms
--   plus-lowest, multiply-lowest    the sum and the product of lowest terms, from any terms
use Rattle.std.proofs.Common.{◌≡◌, ℕ, zero, suc, ◌*◌, ◌/◌, ◌<◌, [], ◌∷◌, ℤ, pos, negsuc, ◌+ℤ◌, ◌*ℤ◌, neg_ℤ, ◌<ℤ◌, ◌≤ℤ◌, unsigned_abs, refl, sym, ap, ap₂, ◌∙◌, subst, subst₂, arith}
use Rattle.std.specs.Int.{◌∣◌}
use Rattle.std.specs.Int.RustNames.{int_div}
use Rattle.std.proofs.lemmas.Int.{ints, unsigned_abs-mul}
use Rattle.std.proofs.Math.Nat.{div-mul_cancel}
use Rattle.ring.specs.Ring.{int_ops, var, con, opposite, ◌:+◌, ◌:-◌, ◌:*◌}
use Rattle.ring.proofs.Solving.{by_ring}
use Rattle.ring.proofs.IntRing.{int_laws}
use Rattle.ring.proofs.IntOrder.{mul_pos}
use Rattle.numbers.specs.Gcd.{gcd}
use Rattle.numbers.specs.Fraction.{Fraction, IsLowest, fraction, lowest, plus, multiply, negative, whole, quotient, reciprocal}
use Rattle.numbers.proofs.GcdLemmas.{gcd_is, gcd-positive, gcd-one_right, gcd-swap, coprime-quotients, lowest_same_denominator}

-- ---- sizes and quotients

-- the opposite has the same size
pub abs-neg : (z : ℤ) → unsigned_abs (neg_ℤ z) ≡ unsigned_abs z
abs-neg z = omega (arith, ints)

zero_of_abs : (z : ℤ) → unsigned_abs z ≡ 0 → z ≡ pos 0
zero_of_abs z h = omega (arith, ints)

-- the size of a positive number is positive
pub abs-positive : (z : ℤ) → pos 0 <ℤ z → 0 < unsigned_abs z
abs-positive z h = omega (arith, ints)

pos-abs : (z : ℤ) → pos 0 <ℤ z → pos (unsigned_abs z) ≡ z
pos-abs z h = omega (arith, ints)

-- a positive natural number is a positive integer
pub pos-positive : (n : ℕ) → 0 < n → pos 0 <ℤ pos n
pos-positive n h = omega (arith, ints)

positive-pos : (n : ℕ) → pos 0 <ℤ pos n → 0 < n
positive-pos n h = omega (arith, ints)

-- the size of a quotient is the quotient of the sizes
pub quotient-abs : (z : ℤ) (g : ℕ) → unsigned_abs (int_div z (pos g)) ≡ unsigned_abs z / g
quotient-abs (pos a) g = refl
quotient-abs (negsuc a) g = abs-neg (pos (suc a / g))

neg-times : (x y : ℤ) → neg_ℤ x *ℤ y ≡ neg_ℤ (x *ℤ y)
neg-times x y =
    by_ring int_ops int_laws (x ∷ y ∷ []) (opposite (var 0) :* var 1) (opposite (var 0 :* var 1)) refl

-- a quotient by a divisor is exact
pub quotient-exact : (z : ℤ) (g : ℕ) → g ∣ unsigned_abs z → int_div z (pos g) *ℤ pos g ≡ z
quotient-exact (pos a) g h = ap pos (div-mul_cancel g h)
quotient-exact (negsuc a) g h =
    neg-times (pos (suc a / g)) (pos g) ∙ ap (λ n. neg_ℤ (pos n)) (div-mul_cancel g h)

-- a factor of a positive product with a natural number is positive
pub factor-positive : (x : ℤ) (n : ℕ) → pos 0 <ℤ (x *ℤ pos n) → pos 0 <ℤ x
factor-positive (pos zero) n h = omega (arith, ints)
factor-positive (pos (suc m)) n h = pos-positive (suc m) (omega arith)
factor-positive (negsuc m) zero h = omega (arith, ints)
factor-positive (negsuc m) (suc n) h = omega (arith, ints)

-- a positive factor cancels
pub cancel : (x y k : ℤ) → pos 0 <ℤ k → x *ℤ k ≡ y *ℤ k → x ≡ y
cancel x y k p h =
    let d : (x +ℤ neg_ℤ y) *ℤ k ≡ pos 0 = by_ring int_ops int_laws (x ∷ y ∷ k ∷ []) ((var 0 :- var 1) :* var 2) (var 0 :* var 2 :- var 1 :* var 2) refl ∙ ap (λ w. w +ℤ neg_ℤ (y *ℤ k)) h ∙ by_ring int_ops int_laws ((y *ℤ k) ∷ []) (var 0 :- var 0) (con (pos 0)) refl in
    let e : unsigned_abs (x +ℤ neg_ℤ y) * unsigned_abs k ≡ 0 = sym (unsigned_abs-mul (x +ℤ neg_ℤ y) k) ∙ ap unsigned_abs d in
    let z : x +ℤ neg_ℤ y ≡ pos 0 = zero_of_abs _ (no_factor (unsigned_abs (x +ℤ neg_ℤ y)) (unsigned_abs k) (abs-positive k p) e) in
    by_ring int_ops int_laws (x ∷ y ∷ []) (var 0) ((var 0 :- var 1) :+ var 1) refl ∙ ap (λ w. w +ℤ y) z ∙ by_ring int_ops int_laws (y ∷ []) (con (pos 0) :+ var 0) (var 0) refl
  where
    no_factor : (m n : ℕ) → 0 < n → m * n ≡ 0 → m ≡ 0
    no_factor zero n p h = refl
    no_factor (suc m) zero p h = absurd (omega arith)
    no_factor (suc m) (suc n) p h = absurd (omega arith)

-- ---- lowest terms

-- the two numbers are a positive multiple of their lowest terms
pub record Parts (n d : ℤ) (p : Fraction) : Type 0 where
  pub factor : ℤ
  pub positive : pos 0 <ℤ factor
  pub upper : p.numerator *ℤ factor ≡ n
  pub lower : p.denominator *ℤ factor ≡ d

-- n and d are a positive multiple of their lowest terms
pub lowest_parts : (n d : ℤ) → pos 0 <ℤ d → Parts n d (lowest n d)
unfolding lowest
lowest_parts n d h =
    let is = gcd_is (unsigned_abs n) (unsigned_abs d) in
    record {
      factor = pos (gcd (unsigned_abs n) (unsigned_abs d));
      positive = pos-positive _ (gcd-positive (unsigned_abs n) (unsigned_abs d) (abs-positive d h));
      upper = quotient-exact n _ is.0;
      lower = quotient-exact d _ is.1;
    }

-- the lowest terms are in lowest terms
pub lowest_is : (n d : ℤ) → pos 0 <ℤ d → IsLowest (lowest n d)
unfolding lowest
lowest_is n d h =
    let g = gcd (unsigned_abs n) (unsigned_abs d) in
    record {
      positive = factor-positive (int_div d (pos g)) g (subst (λ z. pos 0 <ℤ z) (sym (quotient-exact d g (gcd_is (unsigned_abs n) (unsigned_abs d)).1)) h);
      coprime = ap₂ gcd (quotient-abs n g) (quotient-abs d g) ∙ coprime-quotients (unsigned_abs n) (unsigned_abs d) (abs-positive d h);
    }

-- two fractions in lowest terms with one cross product are one
pub lowest_unique : (p q : Fraction) → IsLowest p → IsLowest q → p.numerator *ℤ q.denominator ≡ q.numerator *ℤ p.denominator → p ≡ q
lowest_unique p q h k e =
    let sizes = sym (unsigned_abs-mul p.numerator q.denominator) ∙ ap unsigned_abs e ∙ unsigned_abs-mul q.numerator p.denominator in
    let d : unsigned_abs p.denominator ≡ unsigned_abs q.denominator = lowest_same_denominator _ _ _ _ h.coprime k.coprime sizes in
    let same : p.denominator ≡ q.denominator = sym (pos-abs _ h.positive) ∙ ap pos d ∙ pos-abs _ k.positive in
    let top : p.numerator ≡ q.numerator = cancel _ _ _ k.positive (e ∙ ap (λ w. q.numerator *ℤ w) same) in
    ap₂ (λ (n d : ℤ). let r : Fraction = record { numerator = n; denominator = d } in r) top same

-- an integer over 1 is in lowest terms
pub whole_is : (z : ℤ) → IsLowest (whole z)
whole_is z = record { positive = pos-positive 1 (omega arith); coprime = gcd-one_right (unsigned_abs z) }

-- so is the opposite of what is
pub negative_is : (p : Fraction) → IsLowest p → IsLowest (negative p)
negative_is p h = record {
  positive = h.positive;
  coprime = ap (λ n. gcd n (unsigned_abs p.denominator)) (abs-neg p.numerator) ∙ h.coprime;
}

-- two pairs with one cross product have the same lowest terms
pub lowest_same : (n d m e : ℤ) → pos 0 <ℤ d → pos 0 <ℤ e → n *ℤ e ≡ m *ℤ d → lowest n d ≡ lowest m e
lowest_same n d m e h k c =
    lowest_unique (lowest n d) (lowest m e) (lowest_is n d h) (lowest_is m e k) (crossed (lowest n d) (lowest m e) (lowest_parts n d h) (lowest_parts m e k))
  where
    crossed : (p q : Fraction) → Parts n d p → Parts m e q → p.numerator *ℤ q.denominator ≡ q.numerator *ℤ p.denominator
    crossed p q u v = cancel _ _ (u.factor *ℤ v.factor) (mul_pos _ _ u.positive v.positive) (turn p.numerator q.denominator u.factor v.factor ∙ ap₂ (λ s t. s *ℤ t) u.upper v.lower ∙ c ∙ ap₂ (λ s t. s *ℤ t) (sym v.upper) (sym u.lower) ∙ sym (turned q.numerator p.denominator u.factor v.factor))
      where
        turn : (a b g h : ℤ) → (a *ℤ b) *ℤ (g *ℤ h) ≡ (a *ℤ g) *ℤ (b *ℤ h)
        turn a b g h =
            by_ring int_ops int_laws (a ∷ b ∷ g ∷ h ∷ []) ((var 0 :* var 1) :* (var 2 :* var 3)) ((var 0 :* var 2) :* (var 1 :* var 3)) refl

        turned : (a b g h : ℤ) → (a *ℤ b) *ℤ (g *ℤ h) ≡ (a *ℤ h) *ℤ (b *ℤ g)
        turned a b g h =
            by_ring int_ops int_laws (a ∷ b ∷ g ∷ h ∷ []) ((var 0 :* var 1) :* (var 2 :* var 3)) ((var 0 :* var 3) :* (var 1 :* var 2)) refl

-- what is in lowest terms stays
pub lowest_fixed : (p : Fraction) → IsLowest p → lowest p.numerator p.denominator ≡ p
lowest_fixed p h =
    lowest_unique _ p (lowest_is p.numerator p.denominator h.positive) h (crossed (lowest p.numerator p.denominator) (lowest_parts p.numerator p.denominator h.positive))
  where
    crossed : (q : Fraction) → Parts p.numerator p.denominator q → q.numerator *ℤ p.denominator ≡ p.numerator *ℤ q.denominator
    crossed q u =
        ap (λ w. q.numerator *ℤ w) (sym u.lower) ∙ by_ring int_ops int_laws (q.numerator ∷ q.denominator ∷ u.factor ∷ []) (var 0 :* (var 1 :* var 2)) ((var 0 :* var 2) :* var 1) refl ∙ ap (λ w. w *ℤ q.denominator) u.upper

-- the sum of lowest terms, from any terms
pub plus-lowest : (n d m e : ℤ) → pos 0 <ℤ d → pos 0 <ℤ e → plus (lowest n d) (lowest m e) ≡ lowest (n *ℤ e +ℤ m *ℤ d) (d *ℤ e)
plus-lowest n d m e h k =
    go (lowest n d) (lowest m e) (lowest_parts n d h) (lowest_parts m e k) (lowest_is n d h) (lowest_is m e k)
  where
    go : (p q : Fraction) → Parts n d p → Parts m e q → IsLowest p → IsLowest q → plus p q ≡ lowest (n *ℤ e +ℤ m *ℤ d) (d *ℤ e)
    go p q u v x y =
        lowest_same _ _ _ _ (mul_pos _ _ x.positive y.positive) (mul_pos _ _ h k) (subst₂ (λ s t. (p.numerator *ℤ q.denominator +ℤ q.numerator *ℤ p.denominator) *ℤ (s *ℤ t) ≡ (n *ℤ t +ℤ m *ℤ s) *ℤ (p.denominator *ℤ q.denominator)) u.lower v.lower (subst₂ (λ s t. (p.numerator *ℤ q.denominator +ℤ q.numerator *ℤ p.denominator) *ℤ ((p.denominator *ℤ u.factor) *ℤ (q.denominator *ℤ v.factor)) ≡ (s *ℤ (q.denominator *ℤ v.factor) +ℤ t *ℤ (p.denominator *ℤ u.factor)) *ℤ (p.denominator *ℤ q.denominator)) u.upper v.upper (by_ring int_ops int_laws (p.numerator ∷ p.denominator ∷ q.numerator ∷ q.denominator ∷ u.factor ∷ v.factor ∷ []) ((var 0 :* var 3 :+ var 2 :* var 1) :* ((var 1 :* var 4) :* (var 3 :* var 5))) (((var 0 :* var 4) :* (var 3 :* var 5) :+ (var 2 :* var 5) :* (var 1 :* var 4)) :* (var 1 :* var 3)) refl)))

-- the product of lowest terms, from any terms
pub multiply-lowest : (n d m e : ℤ) → pos 0 <ℤ d → pos 0 <ℤ e → multiply (lowest n d) (lowest m e) ≡ lowest (n *ℤ m) (d *ℤ e)
multiply-lowest n d m e h k =
    go (lowest n d) (lowest m e) (lowest_parts n d h) (lowest_parts m e k) (lowest_is n d h) (lowest_is m e k)
  where
    go : (p q : Fraction) → Parts n d p → Parts m e q → IsLowest p → IsLowest q → multiply p q ≡ lowest (n *ℤ m) (d *ℤ e)
    go p q u v x y =
        lowest_same _ _ _ _ (mul_pos _ _ x.positive y.positive) (mul_pos _ _ h k) (subst₂ (λ s t. (p.numerator *ℤ q.numerator) *ℤ (s *ℤ t) ≡ (n *ℤ m) *ℤ (p.denominator *ℤ q.denominator)) u.lower v.lower (subst₂ (λ s t. (p.numerator *ℤ q.numerator) *ℤ ((p.denominator *ℤ u.factor) *ℤ (q.denominator *ℤ v.factor)) ≡ (s *ℤ t) *ℤ (p.denominator *ℤ q.denominator)) u.upper v.upper (by_ring int_ops int_laws (p.numerator ∷ p.denominator ∷ q.numerator ∷ q.denominator ∷ u.factor ∷ v.factor ∷ []) ((var 0 :* var 2) :* ((var 1 :* var 4) :* (var 3 :* var 5))) (((var 0 :* var 4) :* (var 2 :* var 5)) :* (var 1 :* var 3)) refl)))

-- lowest terms from any way to find the common divisor
pub lowest_from : (n d g : ℤ) → g ≡ pos (gcd (unsigned_abs n) (unsigned_abs d)) → fraction (int_div n g) (int_div d g) ≡ lowest n d
unfolding lowest
lowest_from n d g e = ap (λ w. fraction (int_div n w) (int_div d w)) e

-- the quotient by a positive number
pub quotient-positive : (n d : ℤ) → pos 0 <ℤ d → quotient n d ≡ lowest n d
quotient-positive n (pos d) h = refl
quotient-positive n (negsuc d) h = absurd h.lt

-- the quotient by a negative number, with the opposites written as differences from 0
pub quotient-negative : (n d : ℤ) → d <ℤ pos 0 → quotient n d ≡ lowest (pos 0 +ℤ neg_ℤ n) (pos 0 +ℤ neg_ℤ d)
quotient-negative n (pos d) h = absurd (omega (arith, ints))
quotient-negative n (negsuc d) h =
    ap₂ lowest (sym (int_laws.zero_add (neg_ℤ n))) (sym (int_laws.zero_add (pos (suc d))))

-- 0 has one spelling
pub zero_is : (n d : ℤ) → IsLowest (fraction n d) → n ≡ pos 0 → fraction n d ≡ whole (pos 0)
zero_is n d h e =
    lowest_unique (fraction n d) (whole (pos 0)) h (whole_is (pos 0)) (ap (λ w. w *ℤ pos 1) e ∙ by_ring int_ops int_laws (d ∷ []) (con (pos 0) :* con (pos 1)) (con (pos 0) :* var 0) refl)

-- ---- reciprocals

-- the reciprocal of what is not 0 is in lowest terms
pub reciprocal_is : (n d : ℤ) → IsLowest (fraction n d) → (n ≡ pos 0 → ⊥) → IsLowest (reciprocal (fraction n d))
reciprocal_is (pos zero) d h other = absurd (other refl)
reciprocal_is (pos (suc n)) d h other = record {
  positive = pos-positive (suc n) (omega arith);
  coprime = gcd-swap (unsigned_abs d) (suc n) ∙ h.coprime;
}
reciprocal_is (negsuc n) d h other = record {
  positive = pos-positive (suc n) (omega arith);
  coprime = ap (λ m. gcd m (suc n)) (abs-neg d) ∙ gcd-swap (unsigned_abs d) (suc n) ∙ h.coprime;
}

-- the reciprocal of what is not negative
pub reciprocal-positive : (n d : ℤ) → pos 0 ≤ℤ n → reciprocal (fraction n d) ≡ fraction d n
reciprocal-positive (pos n) d h = refl
reciprocal-positive (negsuc n) d h = absurd h.le

-- the reciprocal of what is negative, with the opposites written as differences from 0
pub reciprocal-negative : (n d : ℤ) → n <ℤ pos 0 → reciprocal (fraction n d) ≡ fraction (pos 0 +ℤ neg_ℤ d) (pos 0 +ℤ neg_ℤ n)
reciprocal-negative (pos n) d h = absurd (omega (arith, ints))
reciprocal-negative (negsuc n) d h =
    ap₂ fraction (sym (int_laws.zero_add (neg_ℤ d))) (sym (int_laws.zero_add (pos (suc n))))

-- p times 1 / p is 1
pub multiply-reciprocal : (n d : ℤ) → IsLowest (fraction n d) → (n ≡ pos 0 → ⊥) → multiply (fraction n d) (reciprocal (fraction n d)) ≡ whole (pos 1)
multiply-reciprocal (pos zero) d h other = absurd (other refl)
multiply-reciprocal (pos (suc n)) d h other =
    lowest_same _ _ (pos 1) (pos 1) (mul_pos _ _ h.positive (pos-positive (suc n) (omega arith))) (pos-positive 1 (omega arith)) (by_ring int_ops int_laws (pos (suc n) ∷ d ∷ []) ((var 0 :* var 1) :* con (pos 1)) (con (pos 1) :* (var 1 :* var 0)) refl) ∙ lowest_fixed (whole (pos 1)) (whole_is (pos 1))
multiply-reciprocal (negsuc n) d h other =
    lowest_same _ _ (pos 1) (pos 1) (mul_pos _ _ h.positive (pos-positive (suc n) (omega arith))) (pos-positive 1 (omega arith)) (by_ring int_ops int_laws (pos (suc n) ∷ d ∷ []) ((opposite (var 0) :* opposite (var 1)) :* con (pos 1)) (con (pos 1) :* (var 1 :* var 0)) refl) ∙ lowest_fixed (whole (pos 1)) (whole_is (pos 1))
