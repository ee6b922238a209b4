use Rattle.std.proofs.Common.{◌≡◌, ◌^◌, T, pos, unsigned_abs, sym, subst₂}
use Rattle.std.proofs.Math.Dec.{leb}
use Rattle.std.proofs.Math.Facts.{leb_yes}
use Rattle.numbers.specs.Gcd.{gcd}
use Rattle.numbers.specs.Fraction.{Fraction, fraction_ops, lowest, quotient, whole, negative}
use Rattle.exact_num.specs.Small.{IsSmall}
use Rattle.matrix3.specs.declared.matrix.Mat3.{Mat3}
use Rattle.matrix3.specs.declared.vector.Vec3.{Vec3}
use Rattle.matrix3.specs.Fits.{ProductFits, ImageFits, DeterminantFits, AdjugateFits}
use Rattle.matrix3.specs.Inverse.{QuotientsFit}
use Rattle.number_tests.proofs.matrices.calls_on_halves.Goals as goal

-- the rows (o, h, 0), (0, h, 0) and (0, 0, -o)
abbrev halves : Fraction → Fraction → Fraction → Fraction → Mat3 Fraction
halves h o z n = record { a11 = o; a12 = h; a13 = z; a21 = z; a22 = h; a23 = z; a31 = z; a32 = z; a33 = n }

-- with o = 1 and h = 1/2
abbrev known : Mat3 Fraction
known = halves (quotient (pos 1) (pos 2)) (whole (pos 1)) (whole (pos 0)) (negative (whole (pos 1)))

-- the column (h, h, o)
abbrev halves_column : Fraction → Fraction → Vec3 Fraction
halves_column h o = record { x = h; y = h; z = o }

abbrev column : Vec3 Fraction
column = halves_column (quotient (pos 1) (pos 2)) (whole (pos 1))

small : (p : Fraction) → T (leb (unsigned_abs p.numerator) (10 ^ 24)) → T (leb (unsigned_abs p.denominator) (10 ^ 12)) → IsSmall p
small p s t = record { upper = record { size = leb_yes s }; lower = record { size = leb_yes t } }

determinant_small : DeterminantFits fraction_ops IsSmall known
unfolding lowest gcd
determinant_small = record {
  first_minor = record { first = small _ tt tt; second = small _ tt tt; difference = small _ tt tt };
  second_minor = record { first = small _ tt tt; second = small _ tt tt; difference = small _ tt tt };
  third_minor = record { first = small _ tt tt; second = small _ tt tt; difference = small _ tt tt };
  minors = record { first = small _ tt tt; second = small _ tt tt; third = small _ tt tt; two = small _ tt tt; three = small _ tt tt };
}

adjugate_small : AdjugateFits fraction_ops IsSmall known
unfolding lowest gcd
adjugate_small = record {
  a11 = record { first = small _ tt tt; second = small _ tt tt; difference = small _ tt tt };
  a12 = record { first = small _ tt tt; second = small _ tt tt; difference = small _ tt tt };
  a13 = record { first = small _ tt tt; second = small _ tt tt; difference = small _ tt tt };
  a21 = record { first = small _ tt tt; second = small _ tt tt; difference = small _ tt tt };
  a22 = record { first = small _ tt tt; second = small _ tt tt; difference = small _ tt tt };
  a23 = record { first = small _ tt tt; second = small _ tt tt; difference = small _ tt tt };
  a31 = record { first = small _ tt tt; second = small _ tt tt; difference = small _ tt tt };
  a32 = record { first = small _ tt tt; second = small _ tt tt; difference = small _ tt tt };
  a33 = record { first = small _ tt tt; second = small _ tt tt; difference = small _ tt tt };
}

product_small : ProductFits fraction_ops IsSmall known known
unfolding lowest gcd
product_small = record {
  a11 = record { first = small _ tt tt; second = small _ tt tt; third = small _ tt tt; two = small _ tt tt; three = small _ tt tt };
  a12 = record { first = small _ tt tt; second = small _ tt tt; third = small _ tt tt; two = small _ tt tt; three = small _ tt tt };
  a13 = record { first = small _ tt tt; second = small _ tt tt; third = small _ tt tt; two = small _ tt tt; three = small _ tt tt };
  a21 = record { first = small _ tt tt; second = small _ tt tt; third = small _ tt tt; two = small _ tt tt; three = small _ tt tt };
  a22 = record { first = small _ tt tt; second = small _ tt tt; third = small _ tt tt; two = small _ tt tt; three = small _ tt tt };
  a23 = record { first = small _ tt tt; second = small _ tt tt; third = small _ tt tt; two = small _ tt tt; three = small _ tt tt };
  a31 = record { first = small _ tt tt; second = small _ tt tt; third = small _ tt tt; two = small _ tt tt; three = small _ tt tt };
  a32 = record { first = small _ tt tt; second = small _ tt tt; third = small _ tt tt; two = small _ tt tt; three = small _ tt tt };
  a33 = record { first = small _ tt tt; second = small _ tt tt; third = small _ tt tt; two = small _ tt tt; three = small _ tt tt };
}

image_small : ImageFits fraction_ops IsSmall known column
unfolding lowest gcd
image_small = record {
  x = record { first = small _ tt tt; second = small _ tt tt; third = small _ tt tt; two = small _ tt tt; three = small _ tt tt };
  y = record { first = small _ tt tt; second = small _ tt tt; third = small _ tt tt; two = small _ tt tt; three = small _ tt tt };
  z = record { first = small _ tt tt; second = small _ tt tt; third = small _ tt tt; two = small _ tt tt; three = small _ tt tt };
}

quotients_small : QuotientsFit known
unfolding lowest gcd
quotients_small = record {
  adjugate_fits = adjugate_small;
  quotients = record {
    a11 = small _ tt tt;
    a12 = small _ tt tt;
    a13 = small _ tt tt;
    a21 = small _ tt tt;
    a22 = small _ tt tt;
    a23 = small _ tt tt;
    a31 = small _ tt tt;
    a32 = small _ tt tt;
    a33 = small _ tt tt;
  };
}

module _ {h o z n : Fraction} (eh : h ≡ quotient (pos 1) (pos 2)) (eo : o ≡ whole (pos 1)) (ez : z ≡ whole (pos 0)) (en : n ≡ negative o) where
  at_halves : (P : Mat3 Fraction → Type 0) → P known → P (halves h o z n)
  at_halves P p =
      subst₂ (λ (a b : Fraction). P (halves a o z b)) (sym eh) (sym en) (subst₂ (λ (a b : Fraction). P (halves (quotient (pos 1) (pos 2)) a b (negative a))) (sym eo) (sym ez) p)

  at_halves_column : (P : Mat3 Fraction → Vec3 Fraction → Type 0) → P known column → P (halves h o z n) (halves_column h o)
  at_halves_column P p =
      subst₂ (λ (a b : Fraction). P (halves a o z b) (halves_column a o)) (sym eh) (sym en) (subst₂ (λ (a b : Fraction). P (halves (quotient (pos 1) (pos 2)) a b (negative a)) (halves_column (quotient (pos 1) (pos 2)) a)) (sym eo) (sym ez) p)

pub inverse-requires-clause-determinant_fits : goal.inverse-requires-clause-determinant_fits
inverse-requires-clause-determinant_fits c =
    at_halves c.in_ok-half.ensures.value c.one_like-one.ensures.value c.zero_like-zero.ensures.value c.neg.ensures (λ m. DeterminantFits fraction_ops IsSmall m) determinant_small

pub inverse-requires-clause-quotients_fit : goal.inverse-requires-clause-quotients_fit
inverse-requires-clause-quotients_fit c other =
    at_halves c.in_ok-half.ensures.value c.one_like-one.ensures.value c.zero_like-zero.ensures.value c.neg.ensures QuotientsFit quotients_small

pub times-square-requires-clause-fits : goal.times-square-requires-clause-fits
times-square-requires-clause-fits c =
    at_halves c.in_ok-half.ensures.value c.one_like-one.ensures.value c.zero_like-zero.ensures.value c.neg.ensures (λ m. ProductFits fraction_ops IsSmall m m) product_small

pub apply-image-requires-clause-fits : goal.apply-image-requires-clause-fits
apply-image-requires-clause-fits c =
    at_halves_column c.in_ok-half.ensures.value c.one_like-one.ensures.value c.zero_like-zero.ensures.value c.neg.ensures (λ m v. ImageFits fraction_ops IsSmall m v) image_small

pub adjugate-minors-requires-clause-fits : goal.adjugate-minors-requires-clause-fits
adjugate-minors-requires-clause-fits c =
    at_halves c.in_ok-half.ensures.value c.one_like-one.ensures.value c.zero_like-zero.ensures.value c.neg.ensures (λ m. AdjugateFits fraction_ops IsSmall m) adjugate_small

pub handed-requires-clause-fits : goal.handed-requires-clause-fits
handed-requires-clause-fits c =
    at_halves c.in_ok-half.ensures.value c.one_like-one.ensures.value c.zero_like-zero.ensures.value c.neg.ensures (λ m. DeterminantFits fraction_ops IsSmall m) determinant_small
