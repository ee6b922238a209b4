-- The words of the search at a few values.
use Rattle.std.proofs.Common.{◌≡◌, refl, ℤ, pos, negsuc, [], ◌∷◌}
use Rattle.crystal_spec.specs.declared.Sign.TheVariants.{Same, Reversed}
use Rattle.crystal_spec.specs.Matrices.{Matrix, identity}
use Rattle.positions.specs.Positions.{triple}
use Rattle.group_match.specs.Candidates.{matrix_of_number}
use Rattle.group_match.specs.Kinds.{kind_of, number_of_kind}
use Rattle.group_match.specs.Matching.{conjugate, third_column}
use Rattle.group_match.specs.Rows.{MeetsThird, identity_less}

abbrev rows : ℤ → ℤ → ℤ → ℤ → ℤ → ℤ → ℤ → ℤ → ℤ → Matrix
rows a b c d e f g h i = record { a11 = a; a12 = b; a13 = c; a21 = d; a22 = e; a23 = f; a31 = g; a32 = h; a33 = i }

abbrev half_turn_z : Matrix
half_turn_z = rows (negsuc 0) (pos 0) (pos 0) (pos 0) (negsuc 0) (pos 0) (pos 0) (pos 0) (pos 1)

abbrev half_turn_x : Matrix
half_turn_x = rows (pos 1) (pos 0) (pos 0) (pos 0) (negsuc 0) (pos 0) (pos 0) (pos 0) (negsuc 0)

-- x, y, z to z, x, y
abbrev cyclic : Matrix
cyclic = rows (pos 0) (pos 0) (pos 1) (pos 1) (pos 0) (pos 0) (pos 0) (pos 1) (pos 0)

first_matrix : matrix_of_number 0 ≡ rows (negsuc 0) (negsuc 0) (negsuc 0) (negsuc 0) (negsuc 0) (negsuc 0) (negsuc 0) (negsuc 0) (negsuc 0)
first_matrix = refl

second_matrix : matrix_of_number 1 ≡ rows (negsuc 0) (negsuc 0) (negsuc 0) (negsuc 0) (negsuc 0) (negsuc 0) (negsuc 0) (negsuc 0) (pos 0)
second_matrix = refl

number_of_identity : matrix_of_number 16484 ≡ identity
number_of_identity = refl

last_matrix : matrix_of_number 19682 ≡ rows (pos 1) (pos 1) (pos 1) (pos 1) (pos 1) (pos 1) (pos 1) (pos 1) (pos 1)
last_matrix = refl

-- the half turn about z becomes that about x
turned_half_turn : conjugate cyclic half_turn_z ≡ half_turn_x
turned_half_turn = refl

-- of the adjugate of the identity
column_of_identity : third_column identity ≡ triple (pos 0) (pos 0) (pos 1)
column_of_identity = refl

-- trace 3 and determinant 1; trace -1 and determinant 1, with time reversal
kind_of_identity : kind_of identity Same ≡ pos 31
kind_of_identity = refl

kind_of_half_turn : kind_of half_turn_z Reversed ≡ negsuc 6
kind_of_half_turn = refl

as_half_turn_x : kind_of half_turn_x Reversed ≡ kind_of half_turn_z Reversed
as_half_turn_x = refl

two_of_three : number_of_kind (pos 31) (pos 31 ∷ negsuc 6 ∷ pos 31 ∷ []) ≡ 2
two_of_three = refl

-- 3 + 2 · 2 + 5 · 3 = 22 is 4 modulo 6
congruence : MeetsThird 6 (record { x = 3; y = 2; z = 5; rest = 4 }) 1 2 3
congruence = refl

-- I - V of the half turn
difference_of_half_turn : identity_less half_turn_z ≡ rows (pos 2) (pos 0) (pos 0) (pos 0) (pos 2) (pos 0) (pos 0) (pos 0) (pos 0)
difference_of_half_turn = refl
