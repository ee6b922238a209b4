-- The definitions at a few values: a screw axis twice, both orders, and the inverse of a rotoinversion.
use Rattle.std.proofs.Common.{refl, arith}
use Rattle.std.specs.Prelude.{ℤ, pos, negsuc}
use Rattle.std.proofs.lemmas.Int.{ints}
use Rattle.crystal_spec.specs.declared.Sign.{Sign}
use Rattle.crystal_spec.specs.declared.Sign.TheVariants.{Same, Reversed}
use Rattle.crystal_spec.specs.Matrices.{Triple, Matrix, identity}
use Rattle.crystal_spec.specs.Operations.{Operation, IsWithinCell}
use Rattle.op_group.specs.Composition.{IsComposed, IsInverseModulo}

abbrev at : ℤ → ℤ → ℤ → Triple
at x y z = record { x = x; y = y; z = z }

abbrev operation : Matrix → Triple → Sign → Operation
operation w t s = record { matrix = w; translation = t; sign = s }

-- a half turn about c
abbrev half_turn : Matrix
half_turn = record { a11 = negsuc 0; a12 = pos 0; a13 = pos 0; a21 = pos 0; a22 = negsuc 0; a23 = pos 0; a31 = pos 0; a32 = pos 0; a33 = pos 1 }

-- quarter turns about c, x, y, z to -y, x, z and back
abbrev quarter_turn : Matrix
quarter_turn = record { a11 = pos 0; a12 = negsuc 0; a13 = pos 0; a21 = pos 1; a22 = pos 0; a23 = pos 0; a31 = pos 0; a32 = pos 0; a33 = pos 1 }

-- a quarter turn and then the inversion, and back
abbrev rotoinversion : Matrix
rotoinversion = record { a11 = pos 0; a12 = pos 1; a13 = pos 0; a21 = negsuc 0; a22 = pos 0; a23 = pos 0; a31 = pos 0; a32 = pos 0; a33 = negsuc 0 }

abbrev rotoinversion_back : Matrix
rotoinversion_back = record { a11 = pos 0; a12 = negsuc 0; a13 = pos 0; a21 = pos 1; a22 = pos 0; a23 = pos 0; a31 = pos 0; a32 = pos 0; a33 = negsuc 0 }

-- with n = 4, a half turn with three quarters along c, twice, is half a cell along c
screw_twice : IsComposed 4 (operation half_turn (at (pos 0) (pos 0) (pos 3)) Same) (operation half_turn (at (pos 0) (pos 0) (pos 3)) Same) (operation identity (at (pos 0) (pos 0) (pos 2)) Same)
screw_twice = record {
  matrix = refl;
  translation = record { within = within; cells = at (pos 0) (pos 0) (pos 1); same = refl };
  sign = refl;
}
  where
    within : IsWithinCell 4 (at (pos 0) (pos 0) (pos 2))
    within = record { x = (omega (arith, ints), omega (arith, ints)); y = (omega (arith, ints), omega (arith, ints)); z = (omega (arith, ints), omega (arith, ints)) }

-- a translation along a and then a quarter turn is the quarter turn with a translation along b
turn_after_translation : IsComposed 4 (operation identity (at (pos 1) (pos 0) (pos 0)) Reversed) (operation quarter_turn (at (pos 0) (pos 0) (pos 0)) Same) (operation quarter_turn (at (pos 0) (pos 1) (pos 0)) Reversed)
turn_after_translation = record {
  matrix = refl;
  translation = record { within = within; cells = at (pos 0) (pos 0) (pos 0); same = refl };
  sign = refl;
}
  where
    within : IsWithinCell 4 (at (pos 0) (pos 1) (pos 0))
    within = record { x = (omega (arith, ints), omega (arith, ints)); y = (omega (arith, ints), omega (arith, ints)); z = (omega (arith, ints), omega (arith, ints)) }

-- a rotoinversion with time reversal undone
rotoinversion_undone : IsInverseModulo 4 (operation rotoinversion (at (pos 1) (pos 2) (pos 3)) Reversed) (operation rotoinversion_back (at (pos 2) (pos 3) (pos 3)) Reversed)
rotoinversion_undone = record {
  within = record { x = (omega (arith, ints), omega (arith, ints)); y = (omega (arith, ints), omega (arith, ints)); z = (omega (arith, ints), omega (arith, ints)) };
  after = record { matrix = refl; translation = record { within = origin; cells = at (pos 0) (pos 1) (pos 0); same = refl }; sign = refl };
  before = record { matrix = refl; translation = record { within = origin; cells = at (pos 1) (pos 0) (pos 0); same = refl }; sign = refl };
}
  where
    origin : IsWithinCell 4 (at (pos 0) (pos 0) (pos 0))
    origin = record { x = (omega (arith, ints), omega (arith, ints)); y = (omega (arith, ints), omega (arith, ints)); z = (omega (arith, ints), omega (arith, ints)) }
