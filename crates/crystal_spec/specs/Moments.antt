-- How maps act on the moments of a crystal. Each kind of moment is acted on by one matrix.
--   axial_vectors                   the kind of magnetic moments: vectors, and axial
--   axial_factor kind h             what a map of determinant h multiplies moments by: h if they are axial, 1 if not
--   turn_matrix kind r              what r is to moments: r to vectors, the identity to scalars
--   moment_matrix kind w sign       the matrix by which the map of matrix w and time sign `sign` acts on moments
--   divisor kind d                  what b m is divided by where a map has the matrix b / d: d for vectors, 1 for scalars
--   IsOfKind kind m                 the triple m is a moment: that of a scalar s is (s, 0, 0)
use Rattle.std.specs.Prelude.{◌≡◌, ℕ, ℤ, pos, ◌*ℤ◌, true, false, if◌then◌else◌}
use Rattle.crystal_spec.specs.declared.MomentKind.{MomentKind}
use Rattle.crystal_spec.specs.Matrices.{Triple, Matrix, determinant, identity, matrix_multiple}

-- magnetic moments are axial vectors
abbrev pub axial_vectors : MomentKind
axial_vectors = record { vector = true; axial = true }

-- axial moments are multiplied by the determinant too
unfoldable pub axial_factor : MomentKind → ℤ → ℤ
axial_factor kind h = if kind.axial then h else pos 1

-- the coordinates of vectors are taken to another basis by r, scalars stay
unfoldable pub turn_matrix : MomentKind → Matrix → Matrix
turn_matrix kind r = if kind.vector then r else identity

-- The matrix by which a map acts on moments: sign · det(W) · W on axial vectors, sign · W on other vectors, sign · det(W)
-- times the identity on axial scalars, sign times the identity on other scalars.
unfoldable pub moment_matrix : MomentKind → Matrix → ℤ → Matrix
moment_matrix kind w sign = matrix_multiple (sign *ℤ axial_factor kind (determinant w)) (turn_matrix kind w)

-- where a map has the matrix b / d: b takes a vector to d times its image, and leaves a scalar
unfoldable pub divisor : MomentKind → ℕ → ℕ
divisor kind d = if kind.vector then d else 1

-- a scalar s is kept as (s, 0, 0)
abbrev pub IsScalar : Triple → Type 0
IsScalar m = (m.y ≡ pos 0) × (m.z ≡ pos 0)

abbrev pub IsOfKind : MomentKind → Triple → Type 0
IsOfKind kind m = kind.vector ≡ false → IsScalar m
