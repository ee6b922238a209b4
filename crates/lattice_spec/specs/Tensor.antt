-- Metric tensors by their six entries, over the operations of a ring.
--   Tensor R                the entries aa, bb, cc, bc, ac and ab
--   tensor_matrix t         the symmetric matrix of a metric tensor
--   squared_length t x y z  the squared length of the vector x a + y b + z c
use Rattle.std.specs.Prelude.{pos}
use Rattle.ring.specs.Ring.{Ops}
use Rattle.matrix3.specs.declared.matrix.Mat3.{Mat3}

-- the scalar products of the axes a, b and c
pub record Tensor (R : Type 0) : Type 0 where
  pub aa : R
  pub bb : R
  pub cc : R
  pub bc : R
  pub ac : R
  pub ab : R

-- rows (aa ab ac), (ab bb bc), (ac bc cc)
abbrev pub tensor_matrix : {R : Type 0} → Tensor R → Mat3 R
tensor_matrix t = record { a11 = t.aa; a12 = t.ab; a13 = t.ac; a21 = t.ab; a22 = t.bb; a23 = t.bc; a31 = t.ac; a32 = t.bc; a33 = t.cc }

module _ {R : Type 0} (o : Ops R) where
  open o use {◌⊕◌, ◌⊗◌, int}

  -- the scalar product of the vector of coordinates x, y, z with itself
  abbrev pub squared_length : Tensor R → R → R → R → R
  squared_length t x y z =
      t.aa ⊗ x ⊗ x ⊕ t.bb ⊗ y ⊗ y ⊕ t.cc ⊗ z ⊗ z ⊕ int (pos 2) ⊗ (t.bc ⊗ y ⊗ z ⊕ t.ac ⊗ x ⊗ z ⊕ t.ab ⊗ x ⊗ y)
