-- Columns and three by three matrices over the operations of a ring, of any size.
--   dot a b c x y z         a x + b y + c z
--   alternating a b c x y z a x - b y + c z
--   minor a b c d           the two-term determinant of the rows (a, b) and (c, d)
--   product a b             the matrix product: first b, then a
--   image a v               the matrix applied to a column
--   transposed a            the transpose
--   determinant a           the determinant, by six terms
--   adjugate a              the matrix of signed minors, whose product with a is the determinant times the identity
--   scalar k                k times the identity
--   matrix_sum a b          the sum of two matrices
--   sum_of u v              the sum of two columns
--   difference u v          the difference of two columns
--   multiple k v            k times a column
--   of_columns u v w        the matrix with these three columns
--   column1 a               the first column; column2 a and column3 a likewise
--   matrix_map f a          f at each entry; vector_map f v likewise
--   EachEntry P a           P holds for each entry; EachCoordinate P v likewise
--   entries a               the nine entries row by row; coordinates v likewise
--   matrix_of_variables n   the matrix of the variables n to n + 8; vector_of_variables n likewise
use Rattle.std.specs.Prelude.{ℕ, ◌+◌, pos, List, [], ◌∷◌}
use Rattle.ring.specs.Ring.{Ops, Expr, var}
use Rattle.matrix3.specs.declared.vector.Vec3.{Vec3}
use Rattle.matrix3.specs.declared.matrix.Mat3.{Mat3}

module _ {R : Type 0} (o : Ops R) where
  open o use {◌⊕◌, ◌⊗◌, opp, int}

  -- the sum of three products, a x + b y + c z
  abbrev pub dot : R → R → R → R → R → R → R
  dot a b c x y z = a ⊗ x ⊕ b ⊗ y ⊕ c ⊗ z

  -- the alternating sum of three products, a x - b y + c z
  abbrev pub alternating : R → R → R → R → R → R → R
  alternating a b c x y z = a ⊗ x ⊕ opp (b ⊗ y) ⊕ c ⊗ z

  -- the two-term determinant of the rows (a, b) and (c, d)
  abbrev pub minor : R → R → R → R → R
  minor a b c d = a ⊗ d ⊕ opp (b ⊗ c)

  -- the matrix product a b: first b, then a
  abbrev pub product : Mat3 R → Mat3 R → Mat3 R
  product a b = record {
    a11 = dot a.a11 a.a12 a.a13 b.a11 b.a21 b.a31;
    a12 = dot a.a11 a.a12 a.a13 b.a12 b.a22 b.a32;
    a13 = dot a.a11 a.a12 a.a13 b.a13 b.a23 b.a33;
    a21 = dot a.a21 a.a22 a.a23 b.a11 b.a21 b.a31;
    a22 = dot a.a21 a.a22 a.a23 b.a12 b.a22 b.a32;
    a23 = dot a.a21 a.a22 a.a23 b.a13 b.a23 b.a33;
    a31 = dot a.a31 a.a32 a.a33 b.a11 b.a21 b.a31;
    a32 = dot a.a31 a.a32 a.a33 b.a12 b.a22 b.a32;
    a33 = dot a.a31 a.a32 a.a33 b.a13 b.a23 b.a33;
  }

  -- the matrix applied to a column
  abbrev pub image : Mat3 R → Vec3 R → Vec3 R
  image a v = record {
    x = dot a.a11 a.a12 a.a13 v.x v.y v.z;
    y = dot a.a21 a.a22 a.a23 v.x v.y v.z;
    z = dot a.a31 a.a32 a.a33 v.x v.y v.z;
  }

  -- the determinant, by its first row and their minors
  abbrev pub determinant : Mat3 R → R
  determinant a = alternating a.a11 a.a12 a.a13 (minor a.a22 a.a23 a.a32 a.a33) (minor a.a21 a.a23 a.a31 a.a33) (minor a.a21 a.a22 a.a31 a.a32)

  -- the adjugate: entry (i, j) is the signed minor of a without row j and column i
  abbrev pub adjugate : Mat3 R → Mat3 R
  adjugate a = record {
    a11 = minor a.a22 a.a23 a.a32 a.a33;
    a12 = minor a.a13 a.a12 a.a33 a.a32;
    a13 = minor a.a12 a.a13 a.a22 a.a23;
    a21 = minor a.a23 a.a21 a.a33 a.a31;
    a22 = minor a.a11 a.a13 a.a31 a.a33;
    a23 = minor a.a13 a.a11 a.a23 a.a21;
    a31 = minor a.a21 a.a22 a.a31 a.a32;
    a32 = minor a.a12 a.a11 a.a32 a.a31;
    a33 = minor a.a11 a.a12 a.a21 a.a22;
  }

  -- k times the identity
  abbrev pub scalar : R → Mat3 R
  scalar k =
      let zero = int (pos 0) in
      record { a11 = k; a12 = zero; a13 = zero; a21 = zero; a22 = k; a23 = zero; a31 = zero; a32 = zero; a33 = k }

  -- the sum of two matrices
  abbrev pub matrix_sum : Mat3 R → Mat3 R → Mat3 R
  matrix_sum a b = record {
    a11 = a.a11 ⊕ b.a11;
    a12 = a.a12 ⊕ b.a12;
    a13 = a.a13 ⊕ b.a13;
    a21 = a.a21 ⊕ b.a21;
    a22 = a.a22 ⊕ b.a22;
    a23 = a.a23 ⊕ b.a23;
    a31 = a.a31 ⊕ b.a31;
    a32 = a.a32 ⊕ b.a32;
    a33 = a.a33 ⊕ b.a33;
  }

  -- the sum of two columns
  abbrev pub sum_of : Vec3 R → Vec3 R → Vec3 R
  sum_of u v = record { x = u.x ⊕ v.x; y = u.y ⊕ v.y; z = u.z ⊕ v.z }

  -- the difference of two columns
  abbrev pub difference : Vec3 R → Vec3 R → Vec3 R
  difference u v = record { x = u.x ⊕ opp v.x; y = u.y ⊕ opp v.y; z = u.z ⊕ opp v.z }

  -- k times a column
  abbrev pub multiple : R → Vec3 R → Vec3 R
  multiple k v = record { x = k ⊗ v.x; y = k ⊗ v.y; z = k ⊗ v.z }

-- the transpose
abbrev pub transposed : {R : Type 0} → Mat3 R → Mat3 R
transposed a = record { a11 = a.a11; a12 = a.a21; a13 = a.a31; a21 = a.a12; a22 = a.a22; a23 = a.a32; a31 = a.a13; a32 = a.a23; a33 = a.a33 }

-- the matrix with these three columns
abbrev pub of_columns : {R : Type 0} → Vec3 R → Vec3 R → Vec3 R → Mat3 R
of_columns u v w = record { a11 = u.x; a12 = v.x; a13 = w.x; a21 = u.y; a22 = v.y; a23 = w.y; a31 = u.z; a32 = v.z; a33 = w.z }

-- the columns
abbrev pub column1 : {R : Type 0} → Mat3 R → Vec3 R
column1 a = record { x = a.a11; y = a.a21; z = a.a31 }

abbrev pub column2 : {R : Type 0} → Mat3 R → Vec3 R
column2 a = record { x = a.a12; y = a.a22; z = a.a32 }

abbrev pub column3 : {R : Type 0} → Mat3 R → Vec3 R
column3 a = record { x = a.a13; y = a.a23; z = a.a33 }

-- f at each entry
abbrev pub matrix_map : {R S : Type 0} → (R → S) → Mat3 R → Mat3 S
matrix_map f a = record { a11 = f a.a11; a12 = f a.a12; a13 = f a.a13; a21 = f a.a21; a22 = f a.a22; a23 = f a.a23; a31 = f a.a31; a32 = f a.a32; a33 = f a.a33 }

-- f at each coordinate
abbrev pub vector_map : {R S : Type 0} → (R → S) → Vec3 R → Vec3 S
vector_map f v = record { x = f v.x; y = f v.y; z = f v.z }

-- P holds for each entry
pub record EachEntry {R : Type 0} (P : R → Type 0) (a : Mat3 R) : Type 0 where
  pub a11 : P a.a11
  pub a12 : P a.a12
  pub a13 : P a.a13
  pub a21 : P a.a21
  pub a22 : P a.a22
  pub a23 : P a.a23
  pub a31 : P a.a31
  pub a32 : P a.a32
  pub a33 : P a.a33

-- P holds for each coordinate
pub record EachCoordinate {R : Type 0} (P : R → Type 0) (v : Vec3 R) : Type 0 where
  pub x : P v.x
  pub y : P v.y
  pub z : P v.z

-- the nine entries row by row
abbrev pub entries : {R : Type 0} → Mat3 R → List R
entries a = a.a11 ∷ a.a12 ∷ a.a13 ∷ a.a21 ∷ a.a22 ∷ a.a23 ∷ a.a31 ∷ a.a32 ∷ a.a33 ∷ []

-- the three coordinates in order
abbrev pub coordinates : {R : Type 0} → Vec3 R → List R
coordinates v = v.x ∷ v.y ∷ v.z ∷ []

-- the matrix of the variables n to n + 8, for identities by computation
abbrev pub matrix_of_variables : ℕ → Mat3 Expr
matrix_of_variables n = record { a11 = var n; a12 = var (n + 1); a13 = var (n + 2); a21 = var (n + 3); a22 = var (n + 4); a23 = var (n + 5); a31 = var (n + 6); a32 = var (n + 7); a33 = var (n + 8) }

-- the column of the variables n to n + 2
abbrev pub vector_of_variables : ℕ → Vec3 Expr
vector_of_variables n = record { x = var n; y = var (n + 1); z = var (n + 2) }
