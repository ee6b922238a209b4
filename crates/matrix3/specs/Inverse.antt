-- Inverse matrices over the operations of a ring.
--   identity            the identity matrix
--   IsInverse a b       b is the inverse of a, on both sides
--   IsUnit d            the integer d is 1 or -1
--   quotient_by d x     the fraction x / d, where d is not 0
--   QuotientsFit a      where the determinant is not 0, the cofactors and their quotients by it are values of the type
use Rattle.std.specs.Prelude.{◌≡◌, ℤ, pos, negsuc}
use Rattle.ring.specs.Ring.{Ops}
use Rattle.numbers.specs.Fraction.{Fraction, fraction_ops, multiply, reciprocal}
use Rattle.exact_num.specs.Small.{IsSmall}
use Rattle.matrix3.specs.declared.matrix.Mat3.{Mat3}
use Rattle.matrix3.specs.Matrices.{product, determinant, adjugate, scalar, matrix_map, EachEntry}
use Rattle.matrix3.specs.Fits.{AdjugateFits}

module _ {R : Type 0} (o : Ops R) where
  open o use {int}

  -- the identity matrix
  abbrev pub identity : Mat3 R
  identity = scalar o (int (pos 1))

  -- b is the inverse of a, on both sides
  pub record IsInverse (a b : Mat3 R) : Type 0 where
    pub left : product o b a ≡ identity
    pub right : product o a b ≡ identity

-- the integer d is 1 or -1
pub data IsUnit : ℤ → Type 0 where
  one : IsUnit (pos 1)
  minus_one : IsUnit (negsuc 0)

-- the fraction x / d, where d is not 0
abbrev pub quotient_by : Fraction → Fraction → Fraction
quotient_by d x = multiply x (reciprocal d)

-- where the determinant is not 0, the signed minors and their quotients by it are values of the type
pub record QuotientsFit (a : Mat3 Fraction) : Type 0 where
  pub adjugate_fits : AdjugateFits fraction_ops IsSmall a
  pub quotients : EachEntry IsSmall (matrix_map (quotient_by (determinant fraction_ops a)) (adjugate fraction_ops a))
