-- What the formulas ask: that their products and sums are values of the type, all of one modulus.
--   FiveOfModulus, MatrixOfModulus, VectorOfModulus    each number, entry, coordinate has this modulus
--   DotFits, AlternatingFits, MinorFits                what one sum of products asks
--   ProductFits a b      what the matrix product asks
--   ImageFits a v        what the matrix applied to a column asks
--   DeterminantFits a    what the determinant by six terms asks
--   AdjugateFits a       what the nine signed minors ask
-- Each names the products and sums in the order in which the formula takes them, from the left.
use Rattle.std.specs.Prelude.{◌≡◌, ℕ}
use Rattle.ring.specs.Ring.{Ops}
use Rattle.matrix3.specs.declared.vector.Vec3.{Vec3}
use Rattle.matrix3.specs.declared.matrix.Mat3.{Mat3}
use Rattle.matrix3.specs.Matrices.{dot, alternating, minor}

-- each of the five numbers has this modulus
pub record FiveOfModulus {T : Type 0} (modulus : T → ℕ) (m : ℕ) (b c x y z : T) : Type 0 where
  pub of_b : modulus b ≡ m
  pub of_c : modulus c ≡ m
  pub of_x : modulus x ≡ m
  pub of_y : modulus y ≡ m
  pub of_z : modulus z ≡ m

-- each entry has this modulus
pub record MatrixOfModulus {T : Type 0} (modulus : T → ℕ) (m : ℕ) (a : Mat3 T) : Type 0 where
  pub a11 : modulus a.a11 ≡ m
  pub a12 : modulus a.a12 ≡ m
  pub a13 : modulus a.a13 ≡ m
  pub a21 : modulus a.a21 ≡ m
  pub a22 : modulus a.a22 ≡ m
  pub a23 : modulus a.a23 ≡ m
  pub a31 : modulus a.a31 ≡ m
  pub a32 : modulus a.a32 ≡ m
  pub a33 : modulus a.a33 ≡ m

-- each coordinate has this modulus
pub record VectorOfModulus {T : Type 0} (modulus : T → ℕ) (m : ℕ) (v : Vec3 T) : Type 0 where
  pub x : modulus v.x ≡ m
  pub y : modulus v.y ≡ m
  pub z : modulus v.z ≡ m

module _ {R : Type 0} (o : Ops R) (fits : R → Type 0) where
  open o use {◌⊕◌, ◌⊗◌, opp}

  -- for a x + b y + c z
  pub record DotFits (a b c x y z : R) : Type 0 where
    pub first : fits (a ⊗ x)
    pub second : fits (b ⊗ y)
    pub third : fits (c ⊗ z)
    pub two : fits (a ⊗ x ⊕ b ⊗ y)
    pub three : fits (dot o a b c x y z)

  -- for a x - b y + c z
  pub record AlternatingFits (a b c x y z : R) : Type 0 where
    pub first : fits (a ⊗ x)
    pub second : fits (b ⊗ y)
    pub third : fits (c ⊗ z)
    pub two : fits (a ⊗ x ⊕ opp (b ⊗ y))
    pub three : fits (alternating o a b c x y z)

  -- for a d - b c
  pub record MinorFits (a b c d : R) : Type 0 where
    pub first : fits (a ⊗ d)
    pub second : fits (b ⊗ c)
    pub difference : fits (minor o a b c d)

  -- for the nine entries of the matrix product
  pub record ProductFits (a b : Mat3 R) : Type 0 where
    pub a11 : DotFits a.a11 a.a12 a.a13 b.a11 b.a21 b.a31
    pub a12 : DotFits a.a11 a.a12 a.a13 b.a12 b.a22 b.a32
    pub a13 : DotFits a.a11 a.a12 a.a13 b.a13 b.a23 b.a33
    pub a21 : DotFits a.a21 a.a22 a.a23 b.a11 b.a21 b.a31
    pub a22 : DotFits a.a21 a.a22 a.a23 b.a12 b.a22 b.a32
    pub a23 : DotFits a.a21 a.a22 a.a23 b.a13 b.a23 b.a33
    pub a31 : DotFits a.a31 a.a32 a.a33 b.a11 b.a21 b.a31
    pub a32 : DotFits a.a31 a.a32 a.a33 b.a12 b.a22 b.a32
    pub a33 : DotFits a.a31 a.a32 a.a33 b.a13 b.a23 b.a33

  -- for the three coordinates of a matrix applied to a column
  pub record ImageFits (a : Mat3 R) (v : Vec3 R) : Type 0 where
    pub x : DotFits a.a11 a.a12 a.a13 v.x v.y v.z
    pub y : DotFits a.a21 a.a22 a.a23 v.x v.y v.z
    pub z : DotFits a.a31 a.a32 a.a33 v.x v.y v.z

  -- for the three minors of the first row, and their alternating sum
  pub record DeterminantFits (a : Mat3 R) : Type 0 where
    pub first_minor : MinorFits a.a22 a.a23 a.a32 a.a33
    pub second_minor : MinorFits a.a21 a.a23 a.a31 a.a33
    pub third_minor : MinorFits a.a21 a.a22 a.a31 a.a32
    pub minors : AlternatingFits a.a11 a.a12 a.a13 (minor o a.a22 a.a23 a.a32 a.a33) (minor o a.a21 a.a23 a.a31 a.a33) (minor o a.a21 a.a22 a.a31 a.a32)

  -- for the nine signed minors, each without one row and one column
  pub record AdjugateFits (a : Mat3 R) : Type 0 where
    pub a11 : MinorFits a.a22 a.a23 a.a32 a.a33
    pub a12 : MinorFits a.a13 a.a12 a.a33 a.a32
    pub a13 : MinorFits a.a12 a.a13 a.a22 a.a23
    pub a21 : MinorFits a.a23 a.a21 a.a33 a.a31
    pub a22 : MinorFits a.a11 a.a13 a.a31 a.a33
    pub a23 : MinorFits a.a13 a.a11 a.a23 a.a21
    pub a31 : MinorFits a.a21 a.a22 a.a31 a.a32
    pub a32 : MinorFits a.a12 a.a11 a.a32 a.a31
    pub a33 : MinorFits a.a11 a.a12 a.a21 a.a22
