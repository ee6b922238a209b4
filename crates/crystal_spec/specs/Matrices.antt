-- Triples and three by three matrices of integers, of any size.
--   product a b       the matrix product: first b, then a
--   image a v         the matrix applied to a column
--   transposed a      the transpose
--   determinant a     the determinant, by six terms
--   adjugate a        the matrix of signed minors
--   multiple k v      k times a column
--   sum_of u v        the sum of two columns
--   difference u v    the difference of two columns
--   matrix_multiple k a   k times a matrix
use Rattle.std.specs.Prelude.{ℤ, pos, ◌*ℤ◌}
use Rattle.ring.specs.Ring.{int_ops}
use Rattle.matrix3.specs.declared.vector.Vec3.{Vec3}
use Rattle.matrix3.specs.declared.matrix.Mat3.{Mat3}
use Rattle.matrix3.specs.Matrices as formulas

abbrev pub Triple : Type 0
Triple = Vec3 ℤ

abbrev pub Matrix : Type 0
Matrix = Mat3 ℤ

abbrev pub product : Matrix → Matrix → Matrix
product a b = formulas.product int_ops a b

abbrev pub image : Matrix → Triple → Triple
image a v = formulas.image int_ops a v

abbrev pub transposed : Matrix → Matrix
transposed a = formulas.transposed a

abbrev pub determinant : Matrix → ℤ
determinant a = formulas.determinant int_ops a

abbrev pub adjugate : Matrix → Matrix
adjugate a = formulas.adjugate int_ops a

abbrev pub identity : Matrix
identity = formulas.scalar int_ops (pos 1)

abbrev pub multiple : ℤ → Triple → Triple
multiple k v = formulas.multiple int_ops k v

abbrev pub sum_of : Triple → Triple → Triple
sum_of u v = formulas.sum_of int_ops u v

abbrev pub difference : Triple → Triple → Triple
difference u v = formulas.difference int_ops u v

abbrev pub matrix_multiple : ℤ → Matrix → Matrix
matrix_multiple k a = formulas.matrix_map (λ x. k *ℤ x) a
