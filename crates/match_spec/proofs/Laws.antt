-- Sums and multiples of matrices over any ring, the trace, and the column of zeros among expressions.
use Rattle.std.proofs.Common.{◌≡◌, pos, ◌++◌, refl}
use Rattle.ring.specs.Ring.{Ops, int_ops, quoted, ◌:*◌}
use Rattle.ring.proofs.RingSound.{Laws}
use Rattle.ring.proofs.Solving.{by_ring}
use Rattle.ring.proofs.IntRing.{int_laws}
use Rattle.matrix3.specs.declared.vector.Vec3.{Vec3}
use Rattle.matrix3.specs.declared.matrix.Mat3.{Mat3}
use Rattle.matrix3.specs.Matrices.{entries, matrix_of_variables, scalar, matrix_map, matrix_sum}
use Rattle.matrix3.specs.Matrices as formulas
use Rattle.matrix3.proofs.MatrixLaws.{by_ring_matrix}
use Rattle.crystal_spec.specs.Matrices.{Matrix, product, determinant, adjugate}

module _ {R : Type 0} (o : Ops R) where
  open o use {◌⊕◌, ◌⊗◌, int}

  -- k times a matrix
  abbrev pub matrix_scaled : R → Mat3 R → Mat3 R
  matrix_scaled k a = matrix_map (λ x. k ⊗ x) a

  -- the column of zeros
  abbrev pub zero_vector : Vec3 R
  zero_vector = let n = int (pos 0) in record { x = n; y = n; z = n }

  -- the sum of the diagonal
  abbrev pub trace : Mat3 R → R
  trace a = a.a11 ⊕ a.a22 ⊕ a.a33

module _ {R : Type 0} (o : Ops R) (L : Laws o) where
  open o use {◌⊗◌}

  -- a product distributes over a sum of matrices
  pub product-matrix_sum : (a b c : Mat3 R) → formulas.product o a (matrix_sum o b c) ≡ matrix_sum o (formulas.product o a b) (formulas.product o a c)
  product-matrix_sum a b c =
      let x = matrix_of_variables 0 in
      let y = matrix_of_variables 9 in
      let z = matrix_of_variables 18 in
      by_ring_matrix o L (entries a ++ entries b ++ entries c) (formulas.product quoted x (matrix_sum quoted y z)) (matrix_sum quoted (formulas.product quoted x y) (formulas.product quoted x z)) refl

  -- and on the other side
  pub matrix_sum-product : (a b c : Mat3 R) → formulas.product o (matrix_sum o a b) c ≡ matrix_sum o (formulas.product o a c) (formulas.product o b c)
  matrix_sum-product a b c =
      let x = matrix_of_variables 0 in
      let y = matrix_of_variables 9 in
      let z = matrix_of_variables 18 in
      by_ring_matrix o L (entries a ++ entries b ++ entries c) (formulas.product quoted (matrix_sum quoted x y) z) (matrix_sum quoted (formulas.product quoted x z) (formulas.product quoted y z)) refl

  -- a sum of matrices does not depend on the order
  pub matrix_sum_comm : (a b : Mat3 R) → matrix_sum o a b ≡ matrix_sum o b a
  matrix_sum_comm a b =
      let x = matrix_of_variables 0 in
      let y = matrix_of_variables 9 in
      by_ring_matrix o L (entries a ++ entries b) (matrix_sum quoted x y) (matrix_sum quoted y x) refl

  -- nor on how it is grouped
  pub matrix_sum_assoc : (a b c : Mat3 R) → matrix_sum o (matrix_sum o a b) c ≡ matrix_sum o a (matrix_sum o b c)
  matrix_sum_assoc a b c =
      let x = matrix_of_variables 0 in
      let y = matrix_of_variables 9 in
      let z = matrix_of_variables 18 in
      by_ring_matrix o L (entries a ++ entries b ++ entries c) (matrix_sum quoted (matrix_sum quoted x y) z) (matrix_sum quoted x (matrix_sum quoted y z)) refl

  -- tr(V Q adj Q) = det Q tr V
  pub trace-right : (v q : Mat3 R) → trace o (formulas.product o (formulas.product o v q) (formulas.adjugate o q)) ≡ formulas.determinant o q ⊗ trace o v
  trace-right v q =
      let x = matrix_of_variables 0 in
      let y = matrix_of_variables 9 in
      by_ring o L (entries v ++ entries q) (trace quoted (formulas.product quoted (formulas.product quoted x y) (formulas.adjugate quoted y))) (formulas.determinant quoted y :* trace quoted x) refl

  -- tr(Q W adj Q) = det Q tr W
  pub trace-left : (q w : Mat3 R) → trace o (formulas.product o (formulas.product o q w) (formulas.adjugate o q)) ≡ formulas.determinant o q ⊗ trace o w
  trace-left q w =
      let x = matrix_of_variables 0 in
      let y = matrix_of_variables 9 in
      by_ring o L (entries q ++ entries w) (trace quoted (formulas.product quoted (formulas.product quoted x y) (formulas.adjugate quoted x))) (formulas.determinant quoted x :* trace quoted y) refl

-- adj(A) A = det(A) I
pub adjugate_times : (a : Matrix) → product (adjugate a) a ≡ scalar int_ops (determinant a)
adjugate_times a = by_ring_matrix int_ops int_laws (entries a) (formulas.product quoted (formulas.adjugate quoted (matrix_of_variables 0)) (matrix_of_variables 0)) (scalar quoted (formulas.determinant quoted (matrix_of_variables 0))) refl
