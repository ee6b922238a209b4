-- A product that is cancelled crosswise is in lowest terms.
--   crosswise_is            the cancelled product is in lowest terms
--   multiply-crosswise      and it is the product
-- The argument: of a / b and c / d in lowest terms, a shares no factor with b, nor c with d; after the greatest common
-- divisors of a and d and of c and b are taken out, no part above shares a factor with a part below.
use Rattle.std.proofs.Common.{◌≡◌, ℕ, ◌*◌, ◌/◌, [], ◌∷◌, ℤ, pos, ◌*ℤ◌, ◌<ℤ◌, unsigned_abs, refl, sym, ap₂, ◌∙◌, subst}
use Rattle.std.specs.Int.{◌∣◌}
use Rattle.std.specs.Int.RustNames.{int_div}
use Rattle.std.proofs.lemmas.Int.{unsigned_abs-mul}
use Rattle.std.proofs.Math.Nat.{div-mul_cancel, dvd-mul_right}
use Rattle.ring.specs.Ring.{int_ops, var, ◌:*◌}
use Rattle.ring.proofs.Solving.{by_ring}
use Rattle.ring.proofs.IntRing.{int_laws}
use Rattle.ring.proofs.IntOrder.{mul_pos}
use Rattle.numbers.specs.Gcd.{gcd}
use Rattle.numbers.specs.Fraction.{IsLowest, fraction, multiply}
use Rattle.numbers.proofs.GcdLemmas.{gcd_is, gcd-swap, coprime-quotients, coprime-part, coprime-mul}
use Rattle.numbers.proofs.FractionLemmas.{lowest_same, lowest_fixed, quotient-exact, quotient-abs, factor-positive, abs-positive}

quotient-divides : (n g : ℕ) → g ∣ n → n / g ∣ n
quotient-divides n g h = subst (λ m. n / g ∣ m) (div-mul_cancel g h) (dvd-mul_right (n / g) g)

coprime-products : (x y z w : ℕ) → gcd x w ≡ 1 → gcd z y ≡ 1 → gcd x y ≡ 1 → gcd z w ≡ 1 → gcd (x * z) (y * w) ≡ 1
coprime-products x y z w xw zy xy zw =
    coprime-mul x z (y * w) (gcd-swap x (y * w) ∙ coprime-mul y w x (gcd-swap y x ∙ xy) (gcd-swap w x ∙ xw)) (gcd-swap z (y * w) ∙ coprime-mul y w z (gcd-swap y z ∙ zy) (gcd-swap w z ∙ zw))

-- parts of two numbers that share no factor
coprime-parts : (a b x y : ℕ) → x ∣ a → y ∣ b → gcd a b ≡ 1 → gcd x y ≡ 1
coprime-parts a b x y p q e =
    gcd-swap x y ∙ coprime-part b x y q (gcd-swap b x ∙ coprime-part a b x p e)

-- a / b times c / d
module _ (a b c d : ℤ) (p : IsLowest (fraction a b)) (q : IsLowest (fraction c d)) where
  abbrev g : ℕ
  g = gcd (unsigned_abs a) (unsigned_abs d)

  abbrev h : ℕ
  h = gcd (unsigned_abs c) (unsigned_abs b)

  abbrev x : ℤ
  x = int_div a (pos g)

  abbrev y : ℤ
  y = int_div b (pos h)

  abbrev z : ℤ
  z = int_div c (pos h)

  abbrev w : ℤ
  w = int_div d (pos g)

  a_is : x *ℤ pos g ≡ a
  a_is = quotient-exact a g (gcd_is (unsigned_abs a) (unsigned_abs d)).0

  d_is : w *ℤ pos g ≡ d
  d_is = quotient-exact d g (gcd_is (unsigned_abs a) (unsigned_abs d)).1

  c_is : z *ℤ pos h ≡ c
  c_is = quotient-exact c h (gcd_is (unsigned_abs c) (unsigned_abs b)).0

  b_is : y *ℤ pos h ≡ b
  b_is = quotient-exact b h (gcd_is (unsigned_abs c) (unsigned_abs b)).1

  y_positive : pos 0 <ℤ y
  y_positive = factor-positive y h (subst (λ n. pos 0 <ℤ n) (sym b_is) p.positive)

  w_positive : pos 0 <ℤ w
  w_positive = factor-positive w g (subst (λ n. pos 0 <ℤ n) (sym d_is) q.positive)

  -- the cancelled product is in lowest terms
  pub crosswise_is : IsLowest (fraction (x *ℤ z) (y *ℤ w))
  crosswise_is =
      let ga = quotient-divides (unsigned_abs a) g (gcd_is (unsigned_abs a) (unsigned_abs d)).0 in
      let gd = quotient-divides (unsigned_abs d) g (gcd_is (unsigned_abs a) (unsigned_abs d)).1 in
      let hc = quotient-divides (unsigned_abs c) h (gcd_is (unsigned_abs c) (unsigned_abs b)).0 in
      let hb = quotient-divides (unsigned_abs b) h (gcd_is (unsigned_abs c) (unsigned_abs b)).1 in
      record {
        positive = mul_pos y w y_positive w_positive;
        coprime = ap₂ gcd (unsigned_abs-mul x z ∙ ap₂ (λ m n. m * n) (quotient-abs a g) (quotient-abs c h)) (unsigned_abs-mul y w ∙ ap₂ (λ m n. m * n) (quotient-abs b h) (quotient-abs d g)) ∙ coprime-products (unsigned_abs a / g) (unsigned_abs b / h) (unsigned_abs c / h) (unsigned_abs d / g) (coprime-quotients (unsigned_abs a) (unsigned_abs d) (abs-positive d q.positive)) (coprime-quotients (unsigned_abs c) (unsigned_abs b) (abs-positive b p.positive)) (coprime-parts (unsigned_abs a) (unsigned_abs b) _ _ ga hb p.coprime) (coprime-parts (unsigned_abs c) (unsigned_abs d) _ _ hc gd q.coprime);
      }

  crossed : (a *ℤ c) *ℤ (y *ℤ w) ≡ (x *ℤ z) *ℤ (b *ℤ d)
  crossed =
      ap₂ (λ s t. (s *ℤ t) *ℤ (y *ℤ w)) (sym a_is) (sym c_is) ∙ by_ring int_ops int_laws (x ∷ y ∷ z ∷ w ∷ pos g ∷ pos h ∷ []) (((var 0 :* var 4) :* (var 2 :* var 5)) :* (var 1 :* var 3)) ((var 0 :* var 2) :* ((var 1 :* var 5) :* (var 3 :* var 4))) refl ∙ ap₂ (λ s t. (x *ℤ z) *ℤ (s *ℤ t)) b_is d_is

  -- the product, with g cancelled from a and d, and h from c and b
  pub multiply-crosswise : multiply (fraction a b) (fraction c d) ≡ fraction (x *ℤ z) (y *ℤ w)
  multiply-crosswise =
      lowest_same (a *ℤ c) (b *ℤ d) (x *ℤ z) (y *ℤ w) (mul_pos b d p.positive q.positive) (mul_pos y w y_positive w_positive) crossed ∙ lowest_fixed (fraction (x *ℤ z) (y *ℤ w)) crosswise_is
