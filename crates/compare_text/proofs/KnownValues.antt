-- The text of maps at a few values.
use Rattle.std.proofs.Common.{◌≡◌, [], ◌∷◌, refl}
use Rattle.std.specs.Prelude.{pos, negsuc, codes}
use Rattle.std.specs.Fmt.{digits}
use Rattle.numbers.specs.Gcd.{gcd}
use Rattle.numbers.specs.Fraction.{Fraction, fraction}
use Rattle.crystal_spec.specs.declared.Sign.TheVariants.{Same, Reversed}
use Rattle.crystal_spec.specs.Matrices.{Matrix}
use Rattle.plain_text.specs.NumberText.{number_text}
use Rattle.crystal_compare.specs.Maps.{AffineMap}
use Rattle.compare_text.specs.ComparisonText.{map_text, comparison_text}

abbrev none : Fraction
none = fraction (pos 0) (pos 1)

abbrev inversion : Matrix
inversion = record { a11 = negsuc 0; a12 = pos 0; a13 = pos 0; a21 = pos 0; a22 = negsuc 0; a23 = pos 0; a31 = pos 0; a32 = pos 0; a33 = negsuc 0 }

abbrev about_a_sixth : AffineMap
about_a_sixth = record { matrix = inversion; shift = record { x = fraction (pos 1) (pos 3); y = none; z = none }; sign = Same }

text_of_a_map : map_text about_a_sixth ≡ codes "-x+1/3,-y,-z,+1\n"
unfolding map_text number_text digits gcd
text_of_a_map = refl

text_of_a_reversal : map_text (record about_a_sixth { sign = Reversed }) ≡ codes "-x+1/3,-y,-z,-1\n"
unfolding map_text number_text digits gcd
text_of_a_reversal = refl

-- no map
text_of_none : comparison_text inversion inversion [] ≡ codes "back1 -1 0 0 0 -1 0 0 0 -1\nback2 -1 0 0 0 -1 0 0 0 -1\nnone\n"
unfolding digits
text_of_none = refl

-- one map
text_of_one : comparison_text inversion inversion (about_a_sixth ∷ []) ≡ codes "back1 -1 0 0 0 -1 0 0 0 -1\nback2 -1 0 0 0 -1 0 0 0 -1\n-x+1/3,-y,-z,+1\n"
unfolding map_text number_text digits gcd
text_of_one = refl
