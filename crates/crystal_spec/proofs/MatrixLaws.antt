-- Laws of columns and matrices of integers, each by computation. A law is named by the left side of its equation.
use Rattle.std.proofs.Common.{◌≡◌, ◌∷◌, ◌++◌, refl}
use Rattle.std.specs.Prelude.{ℤ, pos, ◌*ℤ◌}
use Rattle.ring.specs.Ring.{Expr, quoted, var, con, ◌:*◌}
use Rattle.matrix3.specs.declared.matrix.Mat3.{Mat3}
use Rattle.matrix3.specs.Matrices.{entries, coordinates, matrix_map, matrix_of_variables, vector_of_variables}
use Rattle.matrix3.specs.Matrices as formulas
use Rattle.crystal_spec.specs.Matrices.{Matrix, Triple, product, identity, image, multiple, matrix_multiple}
use Rattle.crystal_spec.proofs.Identities.{by_triples, by_matrices}

-- a multiple of a matrix as expressions
abbrev pub quoted_multiple : Expr → Mat3 Expr → Mat3 Expr
quoted_multiple k a = matrix_map (λ x. k :* x) a

pub image-product : (a b : Matrix) (v : Triple) → image (product a b) v ≡ image a (image b v)
image-product a b v =
    let x = matrix_of_variables 0 in
    let y = matrix_of_variables 9 in
    let z = vector_of_variables 18 in
    by_triples (entries a ++ entries b ++ coordinates v) (formulas.image quoted (formulas.product quoted x y) z) (formulas.image quoted x (formulas.image quoted y z)) refl

pub image-identity : (v : Triple) → image identity v ≡ v
image-identity v =
    let x = vector_of_variables 0 in
    by_triples (coordinates v) (formulas.image quoted (formulas.scalar quoted (con (pos 1))) x) x refl

pub image-matrix_multiple : (k : ℤ) (a : Matrix) (v : Triple) → image (matrix_multiple k a) v ≡ multiple k (image a v)
image-matrix_multiple k a v =
    let x = matrix_of_variables 1 in
    let y = vector_of_variables 10 in
    by_triples (k ∷ entries a ++ coordinates v) (formulas.image quoted (quoted_multiple (var 0) x) y) (formulas.multiple quoted (var 0) (formulas.image quoted x y)) refl

pub multiple_swap : (k l : ℤ) (v : Triple) → multiple k (multiple l v) ≡ multiple l (multiple k v)
multiple_swap k l v =
    let x = vector_of_variables 2 in
    by_triples (k ∷ l ∷ coordinates v) (formulas.multiple quoted (var 0) (formulas.multiple quoted (var 1) x)) (formulas.multiple quoted (var 1) (formulas.multiple quoted (var 0) x)) refl

pub product-matrix_multiples : (k l : ℤ) (a b : Matrix) → product (matrix_multiple k a) (matrix_multiple l b) ≡ matrix_multiple (k *ℤ l) (product a b)
product-matrix_multiples k l a b =
    let x = matrix_of_variables 2 in
    let y = matrix_of_variables 11 in
    by_matrices (k ∷ l ∷ entries a ++ entries b) (formulas.product quoted (quoted_multiple (var 0) x) (quoted_multiple (var 1) y)) (quoted_multiple (var 0 :* var 1) (formulas.product quoted x y)) refl

pub product-matrix_multiple_left : (k : ℤ) (a b : Matrix) → product (matrix_multiple k a) b ≡ matrix_multiple k (product a b)
product-matrix_multiple_left k a b =
    let x = matrix_of_variables 1 in
    let y = matrix_of_variables 10 in
    by_matrices (k ∷ entries a ++ entries b) (formulas.product quoted (quoted_multiple (var 0) x) y) (quoted_multiple (var 0) (formulas.product quoted x y)) refl

pub product-matrix_multiple_right : (k : ℤ) (a b : Matrix) → product a (matrix_multiple k b) ≡ matrix_multiple k (product a b)
product-matrix_multiple_right k a b =
    let x = matrix_of_variables 1 in
    let y = matrix_of_variables 10 in
    by_matrices (k ∷ entries a ++ entries b) (formulas.product quoted x (quoted_multiple (var 0) y)) (quoted_multiple (var 0) (formulas.product quoted x y)) refl
