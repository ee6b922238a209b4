-- The search for isometries by their columns. No public contract cites these words.
--   candidate k                the column of entries -1, 0 and 1 whose digits in the base 3, less one, are those of k
--   scalar_product g u v       the scalar product of the vectors of coordinates u and v
--   of_columns a b c           the matrix of these columns
--   IsOfLength g n v           v has entries -1, 0 and 1, and its squared length is n
--   ListsOfLength g n vs       vs lists exactly the columns of this length
--   IsMatrixOf g a b c w       w is the matrix of the columns a, b and c, whose products of c with a and b are those of the axes
--   HasColumns g a b vs w      so it is for a third column of vs, and the product of a and b is that of the axes
--   HasFirstColumn g a us vs w so it is for a second column of us
--   HasColumnsOf g ts us vs w  so it is for a first column of ts
use Rattle.std.specs.Prelude.{◌≡◌, ◌↔◌, ℕ, ℤ, pos, ◌/◌, ◌%◌, ◌-ℤ◌, List}
use Rattle.ring.specs.Ring.{int_ops}
use Rattle.lists.specs.Increasing.{IsMember}
use Rattle.lists.specs.Any.{AnyOf}
use Rattle.matrix3.specs.Matrices.{dot}
use Rattle.crystal_spec.specs.Matrices.{Triple, Matrix, image}
use Rattle.matrix3.specs.Bounds.{CoordinatesAtMost}

-- the digit at this power of 3, less one
abbrev pub entry_at : ℕ → ℕ → ℤ
entry_at k power = pos (k / power % 3) -ℤ pos 1

abbrev pub candidate : ℕ → Triple
candidate k = record { x = entry_at k 9; y = entry_at k 3; z = entry_at k 1 }

abbrev pub scalar_product : Matrix → Triple → Triple → ℤ
scalar_product g u v =
    let w = image g v in
    dot int_ops u.x u.y u.z w.x w.y w.z

abbrev pub of_columns : Triple → Triple → Triple → Matrix
of_columns a b c = record { a11 = a.x; a12 = b.x; a13 = c.x; a21 = a.y; a22 = b.y; a23 = c.y; a31 = a.z; a32 = b.z; a33 = c.z }

-- entries -1, 0 and 1, and this squared length
pub record IsOfLength (g : Matrix) (n : ℤ) (v : Triple) : Type 0 where
  pub small : CoordinatesAtMost 1 v
  pub same_length : scalar_product g v v ≡ n

pub record ListsOfLength (g : Matrix) (n : ℤ) (vs : List Triple) : Type 0 where
  pub exact : (v : Triple) → IsMember v vs ↔ IsOfLength g n v

pub record IsMatrixOf (g : Matrix) (a b c : Triple) (w : Matrix) : Type 0 where
  pub same_ac : scalar_product g a c ≡ g.a13
  pub same_bc : scalar_product g b c ≡ g.a23
  pub same_matrix : w ≡ of_columns a b c

pub record HasColumns (g : Matrix) (a b : Triple) (vs : List Triple) (w : Matrix) : Type 0 where
  pub same_ab : scalar_product g a b ≡ g.a12
  pub third : AnyOf vs (λ c. IsMatrixOf g a b c w)

abbrev pub HasFirstColumn : Matrix → Triple → List Triple → List Triple → Matrix → Type 0
HasFirstColumn g a us vs w = AnyOf us (λ b. HasColumns g a b vs w)

abbrev pub HasColumnsOf : Matrix → List Triple → List Triple → List Triple → Matrix → Type 0
HasColumnsOf g ts us vs w = AnyOf ts (λ a. HasFirstColumn g a us vs w)
