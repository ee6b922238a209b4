-- The least steps of a list of pure translations along the axes, and upper triangular matrices, by which the triangular
-- basis of its lattice is found.
--   IsAlong axis t            the coordinates of t past the axis are 0
--   along axis t              the coordinate of t along the axis
--   whole_cell axis n         one whole cell along the axis, in units of 1/n
--   IsStep axis o             o is a pure translation by a positive step along the axis
--   IsLeastStep n os axis t   t is such a step of the lattice of the list os, and none of the list is less
--   upper_triangular ..       the matrix with these entries on and above the diagonal
--   HasInverse n b            n times the inverse of the upper triangular matrix b is a small matrix of integers
use Rattle.std.specs.Prelude.{◌≡◌, ℕ, ℤ, pos, ◌^◌, ◌≤ℤ◌, ◌<ℤ◌, List}
use Rattle.ring.specs.Size.{AtMost}
use Rattle.lists.specs.Increasing.{IsMember}
use Rattle.matrix3.specs.Matrices.{EachEntry}
use Rattle.crystal_spec.specs.Matrices.{Triple, Matrix, product, identity}
use Rattle.crystal_spec.specs.Operations.{Operation}
use Rattle.basis_spec.specs.Metrics.{matrix_multiple}
use Rattle.positions.specs.Positions.{triple}
use Rattle.basis_spec.specs.Translations.{pure_translation}
use Rattle.basis_spec.specs.StepBases.{InLattice}
use Rattle.op_group.specs.declared.steps.Axis.{Axis}
use Rattle.op_group.specs.declared.steps.Axis.TheVariants.{X, Y, Z}

-- the coordinates of t past the axis are 0
abbrev pub IsAlong : Axis → Triple → Type 0
IsAlong X t = (t.y ≡ pos 0) × (t.z ≡ pos 0)
IsAlong Y t = t.z ≡ pos 0
IsAlong Z t = Unit {0}

-- the coordinate of t along the axis
abbrev pub along : Axis → Triple → ℤ
along X t = t.x
along Y t = t.y
along Z t = t.z

-- one whole cell along the axis
abbrev pub whole_cell : Axis → ℕ → Triple
whole_cell X n = triple (pos n) (pos 0) (pos 0)
whole_cell Y n = triple (pos 0) (pos n) (pos 0)
whole_cell Z n = triple (pos 0) (pos 0) (pos n)

-- (I, t, +1), where the coordinate of t along the axis is positive, and those past it are 0
pub record IsStep (axis : Axis) (o : Operation) : Type 0 where
  pub pure : o ≡ pure_translation o.translation
  pub is_along : IsAlong axis o.translation
  pub positive : pos 0 <ℤ along axis o.translation

-- t is such a step in the lattice of the list, of at most a whole cell, and none of the list is less
pub record IsLeastStep (n : ℕ) (os : List Operation) (axis : Axis) (t : Triple) : Type 0 where
  pub in_lattice : InLattice n os t
  pub is_along : IsAlong axis t
  pub positive : pos 0 <ℤ along axis t
  pub at_most : along axis t ≤ℤ pos n
  pub least : (o : Operation) → IsMember o os → IsStep axis o → along axis t ≤ℤ along axis o.translation

-- the matrix with these columns, which end on the diagonal
abbrev pub upper_triangular : ℕ → ℕ → ℕ → ℕ → ℕ → ℕ → Matrix
upper_triangular s1 x2 s2 x3 y3 s3 = record { a11 = pos s1; a12 = pos x2; a13 = pos x3; a21 = pos 0; a22 = pos s2; a23 = pos y3; a31 = pos 0; a32 = pos 0; a33 = pos s3 }

-- b is upper triangular, with positive numbers on the diagonal; n times its inverse is a matrix of integers; and all entries
-- are of at most this size
pub record HasInverse (n : ℕ) (b : Matrix) : Type 0 where
  pub zeros : (b.a21 ≡ pos 0) × (b.a31 ≡ pos 0) × (b.a32 ≡ pos 0)
  pub diagonal : (pos 0 <ℤ b.a11) × (pos 0 <ℤ b.a22) × (pos 0 <ℤ b.a33)
  pub inverse : Matrix
  pub is : product b inverse ≡ matrix_multiple (pos n) identity
  pub small : EachEntry (AtMost (2 ^ 32)) b
  pub small_inverse : EachEntry (AtMost (2 ^ 32)) inverse
