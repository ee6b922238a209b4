-- The conditions at a few metric tensors, and a squared length.
use Rattle.std.proofs.Common.{◌≡◌, refl, inr, ℤ, pos, negsuc}
use Rattle.ring.specs.Ring.{int_ops}
use Rattle.lattice_spec.specs.Tensor.{Tensor, tensor_matrix, squared_length}
use Rattle.lattice_spec.specs.Niggli.{IsObtuse, HasShortAxes, IsNiggli}
use Rattle.lattice_spec.proofs.AtNumerals.{niggli_by_test}

-- the metric tensor of the entries aa, bb, cc, bc, ac and ab
abbrev of_entries : ℤ → ℤ → ℤ → ℤ → ℤ → ℤ → Tensor ℤ
of_entries aa bb cc bc ac ab = record { aa = aa; bb = bb; cc = cc; bc = bc; ac = ac; ab = ab }

-- rows (aa ab ac), (ab bb bc), (ac bc cc)
matrix_of_entries : tensor_matrix (of_entries (pos 1) (pos 2) (pos 3) (pos 4) (pos 5) (pos 6)) ≡ record { a11 = pos 1; a12 = pos 6; a13 = pos 5; a21 = pos 6; a22 = pos 2; a23 = pos 4; a31 = pos 5; a32 = pos 4; a33 = pos 3 }
matrix_of_entries = refl

-- of a - b + 2c: 4 + 5 + 24 + 2 (2 + 2 - 1)
length_of_vector : squared_length int_ops (of_entries (pos 4) (pos 5) (pos 6) (negsuc 0) (pos 1) (pos 1)) (pos 1) (negsuc 0) (pos 2) ≡ pos 39
length_of_vector = refl

-- ---- a shortest basis that is not Niggli's: where a is as long as b, |ξ| is to be at most |η|
abbrev other_order : Tensor ℤ
other_order = of_entries (pos 4) (pos 4) (pos 6) (negsuc 0) (pos 0) (pos 0)

oblique : IsObtuse (negsuc 1) (pos 0) (pos 0)
oblique = record { x_at_most_0 = record { le = tt }; y_at_most_0 = record { le = tt }; z_at_most_0 = record { le = tt } }

other_order_is_short : HasShortAxes (tensor_matrix other_order)
other_order_is_short = record {
  a_positive = record { lt = tt };
  a_to_b = record { le = tt };
  b_to_c = record { le = tt };
  x_to_b = record { le = tt };
  y_to_a = record { le = tt };
  z_to_a = record { le = tt };
  form = inr (oblique, record { le = tt });
}

other_order_is_not_niggli : IsNiggli (tensor_matrix other_order) → ⊥
other_order_is_not_niggli n = ((n.obtuse oblique).a_is_b refl).le

-- the same lattice with a and b exchanged
abbrev in_order : Tensor ℤ
in_order = of_entries (pos 4) (pos 4) (pos 6) (pos 0) (negsuc 0) (pos 0)

in_order_is_niggli : IsNiggli (tensor_matrix in_order)
in_order_is_niggli = niggli_by_test in_order tt

-- ---- the three cubic lattices

-- the cube itself
abbrev primitive : Tensor ℤ
primitive = of_entries (pos 1) (pos 1) (pos 1) (pos 0) (pos 0) (pos 0)

primitive_is_niggli : IsNiggli (tensor_matrix primitive)
primitive_is_niggli = niggli_by_test primitive tt

-- half the diagonals of the faces, 60 degrees apart, in units of 1/4 of the cube's squared edge
abbrev face_centred : Tensor ℤ
face_centred = of_entries (pos 2) (pos 2) (pos 2) (pos 1) (pos 1) (pos 1)

face_centred_is_niggli : IsNiggli (tensor_matrix face_centred)
face_centred_is_niggli = niggli_by_test face_centred tt

-- half the diagonals of the cube, in the same units; the sum of the sizes is as large as it may be
abbrev body_centred : Tensor ℤ
body_centred = of_entries (pos 3) (pos 3) (pos 3) (negsuc 0) (negsuc 0) (negsuc 0)

body_centred_is_niggli : IsNiggli (tensor_matrix body_centred)
body_centred_is_niggli = niggli_by_test body_centred tt
