-- What the functions of fractions cite: the sizes of what they compute, and that each number reads back from an i128.
use Rattle.std.proofs.Common.{◌≡◌, ◌≢◌, ◌-ℤ◌, ℕ, ◌*◌, ◌^◌, T, ltb, ℤ, pos, ◌+ℤ◌, ◌*ℤ◌, ◌<ℤ◌, unsigned_abs, sym, ◌∙◌, ap₂, subst, SFits, to_z, of_z, to_z-of_z, arith}
use Rattle.std.specs.Prelude.{int_div, Option, IfSome, IsSome, ◌↔◌}
use Rattle.std.proofs.Math.Nat.{div-le_self}
use mir.Syntax.{w128}
use Rattle.ring.specs.Size.{AtMost}
use Rattle.ring.proofs.Sizes.{at_most_mul, at_most_add, at_most_sub, fits, weaken}
use Rattle.numbers.specs.Gcd.{gcd}
use Rattle.numbers.specs.Fraction.{Fraction, IsLowest, fraction, multiply, reciprocal}
use Rattle.numbers.proofs.GcdLemmas.{gcd-positive}
use Rattle.numbers.proofs.FractionLemmas.{quotient-abs, pos-positive, abs-positive}
use Rattle.numbers.proofs.CrossLemmas.{crosswise_is, multiply-crosswise}
use Rattle.exact_num.specs.Small.{IsSmall}
use Rattle.exact_num.specs.Meanings.{fraction_of}
use Rattle.exact_num.specs.declared.frac.Frac.{Frac}

-- a quotient is no larger than its dividend
pub part-size : {n : ℕ} (z : ℤ) (g : ℕ) → AtMost n z → AtMost n (int_div z (pos g))
part-size z g h = record { size = omega (arith, quotient-abs z g, div-le_self (unsigned_abs z) g, h.size) }

-- the common divisor by which both numbers are divided
pub divisor_positive : (num den : ℤ) → pos 0 <ℤ den → pos 0 <ℤ pos (gcd (unsigned_abs num) (unsigned_abs den))
divisor_positive num den h =
    pos-positive _ (gcd-positive (unsigned_abs num) (unsigned_abs den) (abs-positive den h))

-- the product of a / b and c / d from the four parts that are left
module _ (a b c d x y z w : ℤ) (p : IsLowest (fraction a b)) (q : IsLowest (fraction c d)) (ex : x ≡ int_div a (pos (gcd (unsigned_abs a) (unsigned_abs d)))) (ew : w ≡ int_div d (pos (gcd (unsigned_abs a) (unsigned_abs d)))) (ez : z ≡ int_div c (pos (gcd (unsigned_abs c) (unsigned_abs b)))) (ey : y ≡ int_div b (pos (gcd (unsigned_abs c) (unsigned_abs b)))) where
  same : fraction (x *ℤ z) (y *ℤ w) ≡ fraction (int_div a (pos (gcd (unsigned_abs a) (unsigned_abs d))) *ℤ int_div c (pos (gcd (unsigned_abs c) (unsigned_abs b)))) (int_div b (pos (gcd (unsigned_abs c) (unsigned_abs b))) *ℤ int_div d (pos (gcd (unsigned_abs a) (unsigned_abs d))))
  same =
      ap₂ fraction (ap₂ (λ s t. s *ℤ t) ex ez) (ap₂ (λ s t. s *ℤ t) ey ew)

  -- the product of the parts is in lowest terms
  pub product_lowest : IsLowest (fraction (x *ℤ z) (y *ℤ w))
  product_lowest = subst IsLowest (sym same) (crosswise_is a b c d p q)

  -- and is the product of the fractions
  pub product_is : fraction (x *ℤ z) (y *ℤ w) ≡ multiply (fraction a b) (fraction c d)
  product_is = same ∙ sym (multiply-crosswise a b c d p q)

  -- its numerator is held by an i128 where the product is a value of the type
  pub product_fits : IsSmall (multiply (fraction a b) (fraction c d)) → SFits w128 (x *ℤ z)
  product_fits h =
      let k : IsSmall (fraction (x *ℤ z) (y *ℤ w)) = subst IsSmall (sym product_is) h in
      fits k.upper tt

  -- and so is its denominator
  pub product_fits_below : IsSmall (multiply (fraction a b) (fraction c d)) → SFits w128 (y *ℤ w)
  product_fits_below h =
      let k : IsSmall (fraction (x *ℤ z) (y *ℤ w)) = subst IsSmall (sym product_is) h in
      fits k.lower tt

-- ---- numbers that read back from an i128 as themselves

-- an i128 holds z
abbrev pub Reads : ℤ → Type 0
Reads z = to_z w128 (of_z w128 z) ≡ z

-- what is at most n is held, where 2^127 passes n
pub reads : {n : ℕ} {z : ℤ} → AtMost n z → T (ltb n (2 ^ 127)) → Reads z
reads h t = to_z-of_z (fits h t)

-- the numbers of a / b and c / d, and those of their sum before it is reduced
pub record SumReads (a b c d : ℤ) : Type 0 where
  pub left_num : Reads a
  pub left_den : Reads b
  pub right_num : Reads c
  pub right_den : Reads d
  pub left_term : Reads (a *ℤ d)
  pub right_term : Reads (c *ℤ b)
  pub num : Reads (a *ℤ d +ℤ c *ℤ b)
  pub den : Reads (b *ℤ d)
  pub num_fits : SFits w128 (a *ℤ d +ℤ c *ℤ b)
  pub den_fits : SFits w128 (b *ℤ d)
  pub num_size : AtMost (2 * 10 ^ 36) (a *ℤ d +ℤ c *ℤ b)

-- each of them is small
pub sum_reads : (a b c d : ℤ) → IsSmall (fraction a b) → IsSmall (fraction c d) → SumReads a b c d
sum_reads a b c d p q =
    let ad = at_most_mul p.upper q.lower in
    let cb = at_most_mul q.upper p.lower in
    let bd = at_most_mul p.lower q.lower in
    record {
      left_num = reads p.upper tt;
      left_den = reads p.lower tt;
      right_num = reads q.upper tt;
      right_den = reads q.lower tt;
      left_term = reads ad tt;
      right_term = reads cb tt;
      num = reads (at_most_add ad cb) tt;
      den = reads bd tt;
      num_fits = fits (at_most_add ad cb) tt;
      den_fits = fits bd tt;
      num_size = weaken _ (at_most_add ad cb) tt;
    }

-- the numbers of a / b, and their opposites as the code negates
pub record FractionReads (a b : ℤ) : Type 0 where
  pub num : Reads a
  pub den : Reads b
  pub minus_num : Reads (pos 0 -ℤ a)
  pub minus_den : Reads (pos 0 -ℤ b)

-- each of them is small
pub fraction_reads : (a b : ℤ) → IsSmall (fraction a b) → FractionReads a b
fraction_reads a b p =
    let zero : AtMost 0 (pos 0) = record { size = omega arith } in
    record {
      num = reads p.upper tt;
      den = reads p.lower tt;
      minus_num = reads (at_most_sub zero p.upper) tt;
      minus_den = reads (at_most_sub zero p.lower) tt;
    }

-- what the quotient by q promises, from the product with s, which is 1 / q
pub quotient_clauses : (r : Option Frac) (p q s : Fraction) → reciprocal q ≡ s → q.numerator ≢ pos 0 → IfSome r (λ f. fraction_of f ≡ multiply p s) → IsSome r ↔ IsSmall (multiply p s) → IfSome r (λ f. fraction_of f ≡ multiply p (reciprocal q)) × (IsSome r ↔ (q.numerator ≢ pos 0) × IsSmall (multiply p (reciprocal q)))
quotient_clauses r p q s e other value exact =
    (subst (λ w. IfSome r (λ f. fraction_of f ≡ multiply p w)) (sym e) value, (λ h. (other, subst (λ w. IsSmall (multiply p w)) (sym e) (exact.0 h)), λ h. exact.1 (subst (λ w. IsSmall (multiply p w)) e h.1)))
