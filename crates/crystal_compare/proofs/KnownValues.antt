-- The definitions at a few values: a cube and the same cube with its atom a third of the edge further along a.
use Rattle.std.proofs.Common.{◌≡◌, refl, [], ◌∷◌}
use Rattle.std.specs.Prelude.{pos, negsuc}
use Rattle.std.specs.declared.cmp.Ordering.TheVariants.{Less, Greater}
use Rattle.numbers.specs.Fraction.{Fraction, fraction, lowest}
use Rattle.crystal_spec.specs.declared.Sign.TheVariants.{Same, Reversed}
use Rattle.crystal_spec.specs.Matrices.{Triple, Matrix, image}
use Rattle.crystal_spec.specs.Moments.{axial_vectors}
use Rattle.crystal_spec.specs.Crystals.{Structure}
use Rattle.crystal_compare.specs.Maps.{AffineMap, IsMovedBy, CarriesMetric}
use Rattle.crystal_compare.specs.AnyMaps.{modulo_one}
use Rattle.crystal_compare.specs.Lists.{fraction_order, map_order}

abbrev at : Triple
at = record { x = pos 0; y = pos 0; z = pos 0 }

abbrev third : Triple
third = record { x = pos 1; y = pos 0; z = pos 0 }

abbrev inversion : Matrix
inversion = record { a11 = negsuc 0; a12 = pos 0; a13 = pos 0; a21 = pos 0; a22 = negsuc 0; a23 = pos 0; a31 = pos 0; a32 = pos 0; a33 = negsuc 0 }

abbrev cube : Structure
cube = record {
  names = (65 ∷ []) ∷ [];
  scale = pos 1;
  metric = record { a11 = pos 1; a12 = pos 0; a13 = pos 0; a21 = pos 0; a22 = pos 1; a23 = pos 0; a31 = pos 0; a32 = pos 0; a33 = pos 1 };
  n = 1;
  k = 1;
  kind = axial_vectors;
  atoms = record { species = 0; position = at; moment = at } ∷ [];
}

-- the same in units of 1/4
abbrev in_quarters : Structure
in_quarters = record cube {
  scale = pos 4;
  metric = record { a11 = pos 4; a12 = pos 0; a13 = pos 0; a21 = pos 0; a22 = pos 4; a23 = pos 0; a31 = pos 0; a32 = pos 0; a33 = pos 4 };
}

lengths : CarriesMetric cube in_quarters inversion
lengths = refl

abbrev none : Fraction
none = fraction (pos 0) (pos 1)

-- -x+1/3,-y,-z takes 0 0 0 in units of 1 to 1/3 0 0 in units of 1/3
moved : IsMovedBy (image inversion at) (pos 1) (record { x = fraction (pos 1) (pos 3); y = none; z = none }) third (pos 3)
moved = record { x = refl; y = refl; z = refl }

-- 4/3 and -2/3 are 1/3 modulo 1
modulo : (modulo_one (fraction (pos 4) (pos 3)) ≡ lowest (pos 1) (pos 3)) × (modulo_one (fraction (negsuc 1) (pos 3)) ≡ lowest (pos 1) (pos 3))
modulo = (refl, refl)

-- 1/3 before 1/2, whatever their numerators and denominators
fractions : (fraction_order (fraction (pos 1) (pos 3)) (fraction (pos 1) (pos 2)) ≡ Less) × (fraction_order (fraction (pos 2) (pos 3)) (fraction (pos 1) (pos 2)) ≡ Greater)
fractions = (refl, refl)

abbrev without_time : AffineMap
without_time = record { matrix = inversion; shift = record { x = none; y = none; z = none }; sign = Same }

-- +1 before -1
signs : map_order without_time (record without_time { sign = Reversed }) ≡ Less
unfolding map_order
signs = refl
