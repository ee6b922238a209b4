-- The formulas at two matrices of integers.
use Rattle.std.proofs.Common.{◌≡◌, ℤ, pos, negsuc, refl}
use Rattle.ring.specs.Ring.{int_ops}
use Rattle.matrix3.specs.declared.matrix.Mat3.{Mat3}
use Rattle.matrix3.specs.Matrices.{product, image, determinant, adjugate}

-- the rows (1, 2, 3), (4, 5, 6) and (7, 8, 10)
abbrev first : Mat3 ℤ
first = record { a11 = pos 1; a12 = pos 2; a13 = pos 3; a21 = pos 4; a22 = pos 5; a23 = pos 6; a31 = pos 7; a32 = pos 8; a33 = pos 10 }

-- the rows (2, 0, -1), (1, 3, 0) and (0, 1, 1)
abbrev second : Mat3 ℤ
second = record { a11 = pos 2; a12 = pos 0; a13 = negsuc 0; a21 = pos 1; a22 = pos 3; a23 = pos 0; a31 = pos 0; a32 = pos 1; a33 = pos 1 }

product-first : product int_ops first second ≡ record { a11 = pos 4; a12 = pos 9; a13 = pos 2; a21 = pos 13; a22 = pos 21; a23 = pos 2; a31 = pos 22; a32 = pos 34; a33 = pos 3 }
product-first = refl

image-first : image int_ops first (record { x = pos 1; y = negsuc 0; z = pos 2 }) ≡ record { x = pos 5; y = pos 11; z = pos 19 }
image-first = refl

determinant-first : determinant int_ops first ≡ negsuc 2
determinant-first = refl

determinant-second : determinant int_ops second ≡ pos 5
determinant-second = refl

-- by the minors without row j and column i, with their signs
adjugate-first : adjugate int_ops first ≡ record { a11 = pos 2; a12 = pos 4; a13 = negsuc 2; a21 = pos 2; a22 = negsuc 10; a23 = pos 6; a31 = negsuc 2; a32 = pos 6; a33 = negsuc 2 }
adjugate-first = refl
