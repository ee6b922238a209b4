-- What the formulas ask of integers, and how large their results are, from the sizes of the entries.
--   product_fits, product_size            the matrix product
--   image_fits, image_size                a matrix applied to a column
--   determinant_fits, determinant_size    the determinant
--   adjugate_fits, adjugate_size          the adjugate
--   sum_size, difference_size, multiple_size, matrix_multiple_size    columns and multiples
--   transposed_size                       the transpose
--   grown, coordinates_grown, entries_grown    a larger bound
-- m bounds the size of each entry of the first matrix, n that of each entry of the second or of the column, and N the
-- size of a value of the type. At numerals each premise `T (leb .. N)` is `tt`.
use Rattle.std.proofs.Common.{ℕ, ◌+◌, ◌*◌, ◌≤◌, T, ℤ, ◌*ℤ◌, arith}
use Rattle.std.proofs.Math.Dec.{leb}
use Rattle.std.proofs.Math.Facts.{leb_yes}
use Rattle.ring.specs.Ring.{int_ops}
use Rattle.ring.specs.Size.{AtMost}
use Rattle.ring.proofs.Sizes.{at_most_mul, at_most_add, at_most_neg}
use Rattle.matrix3.specs.declared.vector.Vec3.{Vec3}
use Rattle.matrix3.specs.declared.matrix.Mat3.{Mat3}
use Rattle.matrix3.specs.Matrices.{dot, minor, alternating, product, image, transposed, determinant, adjugate, sum_of, difference, multiple, matrix_map, EachEntry, EachCoordinate}
use Rattle.matrix3.specs.Bounds.{EntriesAtMost, CoordinatesAtMost}
use Rattle.matrix3.specs.Fits.{DotFits, MinorFits, AlternatingFits, ProductFits, ImageFits, DeterminantFits, AdjugateFits}

-- a larger bound
pub grown : {m n : ℕ} {z : ℤ} → m ≤ n → AtMost m z → AtMost n z
grown h k = record { size = omega (arith, h, k.size) }

-- a larger bound of each coordinate
pub coordinates_grown : {m n : ℕ} {v : Vec3 ℤ} → m ≤ n → CoordinatesAtMost m v → CoordinatesAtMost n v
coordinates_grown h v = record { x = grown h v.x; y = grown h v.y; z = grown h v.z }

-- a larger bound of each entry
pub entries_grown : {m n : ℕ} {a : Mat3 ℤ} → m ≤ n → EntriesAtMost m a → EntriesAtMost n a
entries_grown h a = record {
  a11 = grown h a.a11;
  a12 = grown h a.a12;
  a13 = grown h a.a13;
  a21 = grown h a.a21;
  a22 = grown h a.a22;
  a23 = grown h a.a23;
  a31 = grown h a.a31;
  a32 = grown h a.a32;
  a33 = grown h a.a33;
}

-- sums, differences and multiples of columns
pub sum_size : {m n : ℕ} {u v : Vec3 ℤ} → CoordinatesAtMost m u → CoordinatesAtMost n v → CoordinatesAtMost (m + n) (sum_of int_ops u v)
sum_size h k = record { x = at_most_add h.x k.x; y = at_most_add h.y k.y; z = at_most_add h.z k.z }

pub difference_size : {m n : ℕ} {u v : Vec3 ℤ} → CoordinatesAtMost m u → CoordinatesAtMost n v → CoordinatesAtMost (m + n) (difference int_ops u v)
difference_size h k = record { x = at_most_add h.x (at_most_neg k.x); y = at_most_add h.y (at_most_neg k.y); z = at_most_add h.z (at_most_neg k.z) }

pub multiple_size : {m n : ℕ} {k : ℤ} {v : Vec3 ℤ} → AtMost m k → CoordinatesAtMost n v → CoordinatesAtMost (m * n) (multiple int_ops k v)
multiple_size s h = record { x = at_most_mul s h.x; y = at_most_mul s h.y; z = at_most_mul s h.z }

-- a multiple of a matrix
pub matrix_multiple_size : {m n : ℕ} {k : ℤ} {a : Mat3 ℤ} → AtMost m k → EntriesAtMost n a → EntriesAtMost (m * n) (matrix_map (λ x. k *ℤ x) a)
matrix_multiple_size s h = record {
  a11 = at_most_mul s h.a11;
  a12 = at_most_mul s h.a12;
  a13 = at_most_mul s h.a13;
  a21 = at_most_mul s h.a21;
  a22 = at_most_mul s h.a22;
  a23 = at_most_mul s h.a23;
  a31 = at_most_mul s h.a31;
  a32 = at_most_mul s h.a32;
  a33 = at_most_mul s h.a33;
}

-- the transpose has entries of the same sizes
pub transposed_size : {m : ℕ} (a : Mat3 ℤ) → EntriesAtMost m a → EntriesAtMost m (transposed a)
transposed_size a h = record { a11 = h.a11; a12 = h.a21; a13 = h.a31; a21 = h.a12; a22 = h.a22; a23 = h.a32; a31 = h.a13; a32 = h.a23; a33 = h.a33 }

-- ---- sums of three products

dot_size : {m n : ℕ} {a b c x y z : ℤ} → AtMost m a → AtMost m b → AtMost m c → AtMost n x → AtMost n y → AtMost n z → AtMost (m * n + m * n + m * n) (dot int_ops a b c x y z)
dot_size a b c x y z = at_most_add (at_most_add (at_most_mul a x) (at_most_mul b y)) (at_most_mul c z)

dot_fits : {m n N : ℕ} {a b c x y z : ℤ} → m * n + m * n + m * n ≤ N → AtMost m a → AtMost m b → AtMost m c → AtMost n x → AtMost n y → AtMost n z → DotFits int_ops (AtMost N) a b c x y z
dot_fits h a b c x y z = record {
  first = grown (omega (arith, h)) (at_most_mul a x);
  second = grown (omega (arith, h)) (at_most_mul b y);
  third = grown (omega (arith, h)) (at_most_mul c z);
  two = grown (omega (arith, h)) (at_most_add (at_most_mul a x) (at_most_mul b y));
  three = grown h (dot_size a b c x y z);
}

-- ---- the matrix product, and a matrix applied to a column

module _ {m n : ℕ} (a b : Mat3 ℤ) (p : EachEntry (AtMost m) a) (q : EachEntry (AtMost n) b) where
  -- each entry of the product is at most 3 m n
  pub product_size : EachEntry (AtMost (m * n + m * n + m * n)) (product int_ops a b)
  product_size = record {
    a11 = dot_size p.a11 p.a12 p.a13 q.a11 q.a21 q.a31;
    a12 = dot_size p.a11 p.a12 p.a13 q.a12 q.a22 q.a32;
    a13 = dot_size p.a11 p.a12 p.a13 q.a13 q.a23 q.a33;
    a21 = dot_size p.a21 p.a22 p.a23 q.a11 q.a21 q.a31;
    a22 = dot_size p.a21 p.a22 p.a23 q.a12 q.a22 q.a32;
    a23 = dot_size p.a21 p.a22 p.a23 q.a13 q.a23 q.a33;
    a31 = dot_size p.a31 p.a32 p.a33 q.a11 q.a21 q.a31;
    a32 = dot_size p.a31 p.a32 p.a33 q.a12 q.a22 q.a32;
    a33 = dot_size p.a31 p.a32 p.a33 q.a13 q.a23 q.a33;
  }

  -- the product's terms are at most N where 3 m n is
  pub product_fits : {N : ℕ} → T (leb (m * n + m * n + m * n) N) → ProductFits int_ops (AtMost N) a b
  product_fits {N} t =
      let h : m * n + m * n + m * n ≤ N = leb_yes t in
      record {
        a11 = dot_fits h p.a11 p.a12 p.a13 q.a11 q.a21 q.a31;
        a12 = dot_fits h p.a11 p.a12 p.a13 q.a12 q.a22 q.a32;
        a13 = dot_fits h p.a11 p.a12 p.a13 q.a13 q.a23 q.a33;
        a21 = dot_fits h p.a21 p.a22 p.a23 q.a11 q.a21 q.a31;
        a22 = dot_fits h p.a21 p.a22 p.a23 q.a12 q.a22 q.a32;
        a23 = dot_fits h p.a21 p.a22 p.a23 q.a13 q.a23 q.a33;
        a31 = dot_fits h p.a31 p.a32 p.a33 q.a11 q.a21 q.a31;
        a32 = dot_fits h p.a31 p.a32 p.a33 q.a12 q.a22 q.a32;
        a33 = dot_fits h p.a31 p.a32 p.a33 q.a13 q.a23 q.a33;
      }

module _ {m n : ℕ} (a : Mat3 ℤ) (v : Vec3 ℤ) (p : EachEntry (AtMost m) a) (q : EachCoordinate (AtMost n) v) where
  -- each coordinate of the image is at most 3 m n
  pub image_size : EachCoordinate (AtMost (m * n + m * n + m * n)) (image int_ops a v)
  image_size = record {
    x = dot_size p.a11 p.a12 p.a13 q.x q.y q.z;
    y = dot_size p.a21 p.a22 p.a23 q.x q.y q.z;
    z = dot_size p.a31 p.a32 p.a33 q.x q.y q.z;
  }

  -- the image's terms are at most N where 3 m n is
  pub image_fits : {N : ℕ} → T (leb (m * n + m * n + m * n) N) → ImageFits int_ops (AtMost N) a v
  image_fits {N} t =
      let h : m * n + m * n + m * n ≤ N = leb_yes t in
      record {
        x = dot_fits h p.a11 p.a12 p.a13 q.x q.y q.z;
        y = dot_fits h p.a21 p.a22 p.a23 q.x q.y q.z;
        z = dot_fits h p.a31 p.a32 p.a33 q.x q.y q.z;
      }

-- ---- the determinant and the adjugate

minor_size : {m : ℕ} {a b c d : ℤ} → AtMost m a → AtMost m b → AtMost m c → AtMost m d → AtMost (m * m + m * m) (minor int_ops a b c d)
minor_size a b c d = at_most_add (at_most_mul a d) (at_most_neg (at_most_mul b c))

minor_fits : {m N : ℕ} {a b c d : ℤ} → m * m + m * m ≤ N → AtMost m a → AtMost m b → AtMost m c → AtMost m d → MinorFits int_ops (AtMost N) a b c d
minor_fits h a b c d = record {
  first = grown (omega (arith, h)) (at_most_mul a d);
  second = grown (omega (arith, h)) (at_most_mul b c);
  difference = grown h (minor_size a b c d);
}

alternating_size : {m n : ℕ} {a b c x y z : ℤ} → AtMost m a → AtMost m b → AtMost m c → AtMost n x → AtMost n y → AtMost n z → AtMost (m * n + m * n + m * n) (alternating int_ops a b c x y z)
alternating_size a b c x y z =
    at_most_add (at_most_add (at_most_mul a x) (at_most_neg (at_most_mul b y))) (at_most_mul c z)

alternating_fits : {m n N : ℕ} {a b c x y z : ℤ} → m * n + m * n + m * n ≤ N → AtMost m a → AtMost m b → AtMost m c → AtMost n x → AtMost n y → AtMost n z → AlternatingFits int_ops (AtMost N) a b c x y z
alternating_fits h a b c x y z = record {
  first = grown (omega (arith, h)) (at_most_mul a x);
  second = grown (omega (arith, h)) (at_most_mul b y);
  third = grown (omega (arith, h)) (at_most_mul c z);
  two = grown (omega (arith, h)) (at_most_add (at_most_mul a x) (at_most_neg (at_most_mul b y)));
  three = grown h (alternating_size a b c x y z);
}

module _ {m : ℕ} (a : Mat3 ℤ) (p : EachEntry (AtMost m) a) where
  -- the determinant is at most 6 m³
  pub determinant_size : AtMost (m * (m * m + m * m) + m * (m * m + m * m) + m * (m * m + m * m)) (determinant int_ops a)
  determinant_size =
      alternating_size p.a11 p.a12 p.a13 (minor_size p.a22 p.a23 p.a32 p.a33) (minor_size p.a21 p.a23 p.a31 p.a33) (minor_size p.a21 p.a22 p.a31 p.a32)

  -- the determinant's terms are at most N where 2 m² and 6 m³ are
  pub determinant_fits : {N : ℕ} → T (leb (m * m + m * m) N) → T (leb (m * (m * m + m * m) + m * (m * m + m * m) + m * (m * m + m * m)) N) → DeterminantFits int_ops (AtMost N) a
  determinant_fits s t = record {
    first_minor = minor_fits (leb_yes s) p.a22 p.a23 p.a32 p.a33;
    second_minor = minor_fits (leb_yes s) p.a21 p.a23 p.a31 p.a33;
    third_minor = minor_fits (leb_yes s) p.a21 p.a22 p.a31 p.a32;
    minors = alternating_fits (leb_yes t) p.a11 p.a12 p.a13 (minor_size p.a22 p.a23 p.a32 p.a33) (minor_size p.a21 p.a23 p.a31 p.a33) (minor_size p.a21 p.a22 p.a31 p.a32);
  }

  -- each entry of the adjugate is at most 2 m²
  pub adjugate_size : EachEntry (AtMost (m * m + m * m)) (adjugate int_ops a)
  adjugate_size = record {
    a11 = minor_size p.a22 p.a23 p.a32 p.a33;
    a12 = minor_size p.a13 p.a12 p.a33 p.a32;
    a13 = minor_size p.a12 p.a13 p.a22 p.a23;
    a21 = minor_size p.a23 p.a21 p.a33 p.a31;
    a22 = minor_size p.a11 p.a13 p.a31 p.a33;
    a23 = minor_size p.a13 p.a11 p.a23 p.a21;
    a31 = minor_size p.a21 p.a22 p.a31 p.a32;
    a32 = minor_size p.a12 p.a11 p.a32 p.a31;
    a33 = minor_size p.a11 p.a12 p.a21 p.a22;
  }

  -- the adjugate's terms are at most N where 2 m² is
  pub adjugate_fits : {N : ℕ} → T (leb (m * m + m * m) N) → AdjugateFits int_ops (AtMost N) a
  adjugate_fits {N} t =
      let h : m * m + m * m ≤ N = leb_yes t in
      record {
        a11 = minor_fits h p.a22 p.a23 p.a32 p.a33;
        a12 = minor_fits h p.a13 p.a12 p.a33 p.a32;
        a13 = minor_fits h p.a12 p.a13 p.a22 p.a23;
        a21 = minor_fits h p.a23 p.a21 p.a33 p.a31;
        a22 = minor_fits h p.a11 p.a13 p.a31 p.a33;
        a23 = minor_fits h p.a13 p.a11 p.a23 p.a21;
        a31 = minor_fits h p.a21 p.a22 p.a31 p.a32;
        a32 = minor_fits h p.a12 p.a11 p.a32 p.a31;
        a33 = minor_fits h p.a11 p.a12 p.a21 p.a22;
      }
