-- The definitions at a few values: axial moments, positions, isometries, occupied positions, the order of operations.
use Rattle.std.proofs.Common.{◌≡◌, refl, inl, [], ◌∷◌, arith}
use Rattle.std.specs.Prelude.{ℤ, pos, negsuc, Bool, true, false}
use Rattle.std.specs.declared.cmp.Ordering.TheVariants.{Less, Equal, Greater}
use Rattle.std.proofs.lemmas.Int.{ints}
use Rattle.lists.specs.Increasing.{inserted}
use Rattle.crystal_spec.specs.declared.Sign.{Sign}
use Rattle.crystal_spec.specs.declared.Sign.TheVariants.{Same, Reversed}
use Rattle.crystal_spec.specs.Matrices.{Triple, Matrix, determinant, identity}
use Rattle.crystal_spec.specs.declared.MomentKind.{MomentKind}
use Rattle.crystal_spec.specs.Moments.{axial_vectors, axial_factor, turn_matrix, moment_matrix}
use Rattle.crystal_spec.specs.Crystals.{Structure, IsPositive, Occupied, KeepsMetric, position_after, moment_after}
use Rattle.crystal_spec.specs.Operations.{Operation, compare_of, sign_factor}

abbrev at : ℤ → ℤ → ℤ → Triple
at x y z = record { x = x; y = y; z = z }

abbrev diagonal : ℤ → ℤ → ℤ → Matrix
diagonal a b c = record { a11 = a; a12 = pos 0; a13 = pos 0; a21 = pos 0; a22 = b; a23 = pos 0; a31 = pos 0; a32 = pos 0; a33 = c }

-- a quarter turn about c
abbrev quarter_turn : Matrix
quarter_turn = record { a11 = pos 0; a12 = negsuc 0; a13 = pos 0; a21 = pos 1; a22 = pos 0; a23 = pos 0; a31 = pos 0; a32 = pos 0; a33 = pos 1 }

abbrev inversion : Matrix
inversion = diagonal (negsuc 0) (negsuc 0) (negsuc 0)

determinants : (determinant quarter_turn ≡ pos 1) × (determinant inversion ≡ negsuc 0)
determinants = (refl, refl)

-- x, y, z goes to -y + 1, x, z + 2
positions : position_after quarter_turn (at (pos 1) (pos 0) (pos 2)) (at (pos 3) (pos 4) (pos 5)) ≡ at (negsuc 2) (pos 3) (pos 7)
positions = refl

-- the inversion leaves an axial vector as it is
moment_under_inversion : moment_after axial_vectors inversion (pos 1) (at (pos 1) (pos 2) (pos 3)) ≡ at (pos 1) (pos 2) (pos 3)
unfolding moment_matrix axial_factor turn_matrix
moment_under_inversion = refl

-- a mirror plane perpendicular to c leaves a moment along c, and turns one along a round
moment_under_mirror : (moment_after axial_vectors (diagonal (pos 1) (pos 1) (negsuc 0)) (pos 1) (at (pos 0) (pos 0) (pos 1)) ≡ at (pos 0) (pos 0) (pos 1)) × (moment_after axial_vectors (diagonal (pos 1) (pos 1) (negsuc 0)) (pos 1) (at (pos 1) (pos 0) (pos 0)) ≡ at (negsuc 0) (pos 0) (pos 0))
unfolding moment_matrix axial_factor turn_matrix
moment_under_mirror = (refl, refl)

-- a half turn about a turns a moment along c round, and with time reversal leaves it
moment_under_half_turn : (moment_after axial_vectors (diagonal (pos 1) (negsuc 0) (negsuc 0)) (sign_factor Same) (at (pos 0) (pos 0) (pos 1)) ≡ at (pos 0) (pos 0) (negsuc 0)) × (moment_after axial_vectors (diagonal (pos 1) (negsuc 0) (negsuc 0)) (sign_factor Reversed) (at (pos 0) (pos 0) (pos 1)) ≡ at (pos 0) (pos 0) (pos 1))
unfolding moment_matrix axial_factor turn_matrix
moment_under_half_turn = (refl, refl)

-- the other kinds: the inversion turns round a vector that is not axial, and a scalar that is; a mirror plane leaves a scalar
abbrev of_kind : Bool → Bool → MomentKind
of_kind vector axial = record { vector = vector; axial = axial }

other_kinds : (moment_after (of_kind true false) inversion (pos 1) (at (pos 1) (pos 2) (pos 3)) ≡ at (negsuc 0) (negsuc 1) (negsuc 2))
    × (moment_after (of_kind false true) inversion (pos 1) (at (pos 1) (pos 0) (pos 0)) ≡ at (negsuc 0) (pos 0) (pos 0))
    × (moment_after (of_kind false false) inversion (pos 1) (at (pos 1) (pos 0) (pos 0)) ≡ at (pos 1) (pos 0) (pos 0))
    × (moment_after (of_kind false false) (diagonal (negsuc 0) (pos 1) (pos 1)) (negsuc 0) (at (pos 1) (pos 0) (pos 0)) ≡ at (negsuc 0) (pos 0) (pos 0))
unfolding moment_matrix axial_factor turn_matrix
other_kinds = (refl, refl, refl, refl)

-- a quarter turn is an isometry of a square metric tensor
quarter_turn_keeps : KeepsMetric (diagonal (pos 4) (pos 4) (pos 9)) quarter_turn
quarter_turn_keeps = refl

-- a positive metric tensor with an oblique angle: b is a + 7 times as long as before, and the minors are 1, 1 and 1
oblique_is_positive : IsPositive (record { a11 = pos 1; a12 = pos 7; a13 = pos 0; a21 = pos 7; a22 = pos 50; a23 = pos 0; a31 = pos 0; a32 = pos 0; a33 = pos 1 })
oblique_is_positive = record { first = omega (arith, ints); second = omega (arith, ints); third = omega (arith, ints) }

-- a cell with n = 2 and an atom half way up c
doubled : Structure
doubled = record {
  names = [];
  scale = pos 1;
  metric = identity;
  n = 2;
  k = 1;
  kind = axial_vectors;
  atoms = record { species = 0; position = at (pos 0) (pos 0) (pos 1); moment = at (pos 0) (pos 0) (negsuc 0) } ∷ [];
}

-- two cells along a and one back along c
occupied_two_cells_on : Occupied doubled 0 (at (pos 4) (pos 0) (negsuc 0)) (at (pos 0) (pos 0) (negsuc 0))
unfolding doubled
occupied_two_cells_on = record {
  atom = record { species = 0; position = at (pos 0) (pos 0) (pos 1); moment = at (pos 0) (pos 0) (negsuc 0) };
  of_cell = inl refl;
  same_species = refl;
  same_moment = refl;
  cells = at (pos 2) (pos 0) (negsuc 0);
  same_position = refl;
}

abbrev operation : Matrix → Triple → Sign → Operation
operation w t s = record { matrix = w; translation = t; sign = s }

abbrev none : Triple
none = at (pos 0) (pos 0) (pos 0)

-- entries before translation parts before signs, and +1 before -1
order : (compare_of (operation inversion none Reversed) (operation identity none Same) ≡ Less)
    × (compare_of (operation identity (at (pos 0) (pos 0) (pos 1)) Same) (operation identity none Reversed) ≡ Greater)
    × (compare_of (operation identity none Same) (operation identity none Reversed) ≡ Less)
    × (compare_of (operation identity none Same) (operation identity none Same) ≡ Equal)
unfolding compare_of
order = (refl, refl, refl, refl)

-- an operation goes to its place in a list, once
placed : inserted compare_of (operation identity none Same) (operation inversion none Same ∷ operation identity none Reversed ∷ []) ≡ operation inversion none Same ∷ operation identity none Same ∷ operation identity none Reversed ∷ []
unfolding compare_of
placed = refl
