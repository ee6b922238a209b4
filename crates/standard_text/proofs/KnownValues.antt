-- Texts of standard cells, written by hand.
use Rattle.std.proofs.Common.{◌≡◌, ◌∷◌, [], ℤ, pos, negsuc, refl, arith, lit≤}
use Rattle.std.specs.Prelude.{true, false, codes}
use Rattle.std.specs.Fmt.{digits}
use Rattle.std.proofs.lemmas.Int.{ints}
use Rattle.numbers.specs.Gcd.{gcd}
use Rattle.exact_num.specs.declared.frac.Frac.{Frac}
use Rattle.crystal_spec.specs.Matrices.{Matrix, identity}
use Rattle.crystal_spec.specs.Moments.{axial_vectors}
use Rattle.crystal_spec.specs.Crystals.{Structure}
use Rattle.group_match.specs.declared.map.Map.{Map}
use Rattle.plain_text.specs.NumberText.{number_text}
use Rattle.cell_print.specs.CellFileText.{atom_text}
use Rattle.standard_text.specs.StandardText.{standard_text}

abbrev rows : ℤ → ℤ → ℤ → ℤ → ℤ → ℤ → ℤ → ℤ → ℤ → Matrix
rows a b c d e f g h i = record { a11 = a; a12 = b; a13 = c; a21 = d; a22 = e; a23 = f; a31 = g; a32 = h; a33 = i }

none : Frac
unfolding gcd
none = record {
  num = pos 0;
  den = pos 1;
  lowest = record { positive = omega (arith, ints); coprime = refl };
  small = record { upper = record { size = lit≤ tt }; lower = record { size = lit≤ tt } };
}

seventh : Frac
unfolding gcd
seventh = record {
  num = pos 1;
  den = pos 7;
  lowest = record { positive = omega (arith, ints); coprime = refl };
  small = record { upper = record { size = lit≤ tt }; lower = record { size = lit≤ tt } };
}

abbrev map_of : Matrix → Frac → Map
map_of q f = record { class = identity; turn = q; origin = record { x = f; y = f; z = f } }

-- a cube with its moment along c
abbrev cube : Structure
cube = record {
  names = codes "A" ∷ [];
  scale = pos 1;
  metric = rows (pos 1) (pos 0) (pos 0) (pos 0) (pos 1) (pos 0) (pos 0) (pos 0) (pos 1);
  n = 1;
  k = 1;
  kind = axial_vectors;
  atoms = record { species = 0; position = record { x = pos 0; y = pos 0; z = pos 0 }; moment = record { x = pos 0; y = pos 0; z = pos 1 } } ∷ [];
}

-- a half turn about c
text_of_a_half_turn : standard_text 2 (codes "P4/mm'm'") (map_of (rows (negsuc 0) (pos 0) (pos 0) (pos 0) (negsuc 0) (pos 0) (pos 0) (pos 0) (pos 1)) none) cube
    ≡ codes "magcell 1\n# row 2 P4/mm'm'\n# map -1 0 0 0 -1 0 0 0 1 0 0 0\nmetric 1 1 1 0 0 0\natom A 0 0 0 0 0 1\nend\n"
unfolding none atom_text number_text digits gcd
text_of_a_half_turn = refl

-- skew axes, with the atom at the origin
abbrev skew : Structure
skew = record {
  names = codes "X" ∷ [];
  scale = pos 1;
  metric = rows (pos 21) (pos 13) (pos 14) (pos 13) (pos 11) (pos 7) (pos 14) (pos 7) (pos 12);
  n = 1;
  k = 1;
  kind = axial_vectors;
  atoms = record { species = 0; position = record { x = pos 0; y = pos 0; z = pos 0 }; moment = record { x = negsuc 3; y = pos 2; z = pos 1 } } ∷ [];
}

-- other axes, and an origin that is not that of the primitive cell
text_of_a_moved_origin : standard_text 1 (codes "P-1") (map_of (rows (negsuc 0) (negsuc 0) (negsuc 0) (negsuc 0) (negsuc 0) (pos 0) (negsuc 0) (pos 0) (negsuc 0)) seventh) skew
    ≡ codes "magcell 1\n# row 1 P-1\n# map -1 -1 -1 -1 -1 0 -1 0 -1 1/7 1/7 1/7\nmetric 21 11 12 7 14 13\natom X 0 0 0 -4 2 1\nend\n"
unfolding seventh atom_text number_text digits gcd
text_of_a_moved_origin = refl

-- the cube with a scalar
abbrev scalar : Structure
scalar = record cube {
  kind = record { vector = false; axial = true };
  atoms = record { species = 0; position = record { x = pos 0; y = pos 0; z = pos 0 }; moment = record { x = pos 1; y = pos 0; z = pos 0 } } ∷ [];
}

-- the comments stand before the kind line
text_of_a_scalar : standard_text 2 (codes "a") (map_of identity none) scalar
    ≡ codes "magcell 2\n# row 2 a\n# map 1 0 0 0 1 0 0 0 1 0 0 0\nkind scalar axial\nmetric 1 1 1 0 0 0\natom A 0 0 0 1\nend\n"
unfolding none atom_text number_text digits gcd
text_of_a_scalar = refl
