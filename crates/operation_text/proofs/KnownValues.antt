-- The text of operations at a few values.
use Rattle.std.proofs.Common.{◌≡◌, ◌++◌, ◌∷◌, [], List, ℕ, pos, negsuc, refl, ap₂, lit<}
use Rattle.std.specs.Prelude.{codes}
use Rattle.std.specs.declared.option.Option.TheVariants.{None}
use Rattle.std.specs.Fmt.{digits}
use Rattle.std.proofs.lemmas.Fmt.{decimal_digit}
use Rattle.numbers.specs.Gcd.{gcd}
use Rattle.crystal_spec.specs.declared.Sign.TheVariants.{Same, Reversed}
use Rattle.crystal_spec.specs.Matrices.{Triple, Matrix}
use Rattle.operation_text.specs.EntryText.{entries_text}
use Rattle.operation_text.specs.OperationText.{row_text, parts_text, operation_text}
use Rattle.operation_text.specs.Pages.{page_text}

-- two quarters are a half
text_of_two_quarters : row_text 4 (negsuc 0) (pos 0) (pos 0) (pos 2) ≡ codes "-x+1/2"
unfolding gcd
text_of_two_quarters = ap₂ (λ (p q : List ℕ). codes "-x+" ++ p ++ codes "/" ++ q) (decimal_digit 1 (lit< tt)) (decimal_digit 2 (lit< tt))

text_of_eight_twelfths : row_text 12 (pos 1) (negsuc 0) (pos 0) (pos 8) ≡ codes "x-y+2/3"
unfolding gcd
text_of_eight_twelfths = ap₂ (λ (p q : List ℕ). codes "x-y+" ++ p ++ codes "/" ++ q) (decimal_digit 2 (lit< tt)) (decimal_digit 3 (lit< tt))

-- a quarter turn about c with time reversal
text_of_a_quarter_turn : operation_text 1 (record { matrix = record { a11 = pos 0; a12 = negsuc 0; a13 = pos 0; a21 = pos 1; a22 = pos 0; a23 = pos 0; a31 = pos 0; a32 = pos 0; a33 = pos 1 }; translation = record { x = pos 0; y = pos 0; z = pos 0 }; sign = Reversed }) ≡ codes "-y,x,z,-1\n"
unfolding parts_text
text_of_a_quarter_turn = refl

-- ---- operations without and with time reversal

-- the two lines of a matrix and a translation in units of 1/n
abbrev lines_of_both : ℕ → Matrix → Triple → List ℕ
lines_of_both n w t = page_text (record { n = n; operations = record { matrix = w; translation = t; sign = Same } ∷ record { matrix = w; translation = t; sign = Reversed } ∷ [] }) 0 None

text_of_the_identity : lines_of_both 1 (record { a11 = pos 1; a12 = pos 0; a13 = pos 0; a21 = pos 0; a22 = pos 1; a23 = pos 0; a31 = pos 0; a32 = pos 0; a33 = pos 1 }) (record { x = pos 0; y = pos 0; z = pos 0 }) ≡ codes "x,y,z,+1\nx,y,z,-1\n"
unfolding parts_text digits gcd
text_of_the_identity = refl

text_of_the_inversion : lines_of_both 1 (record { a11 = negsuc 0; a12 = pos 0; a13 = pos 0; a21 = pos 0; a22 = negsuc 0; a23 = pos 0; a31 = pos 0; a32 = pos 0; a33 = negsuc 0 }) (record { x = pos 0; y = pos 0; z = pos 0 }) ≡ codes "-x,-y,-z,+1\n-x,-y,-z,-1\n"
unfolding parts_text digits gcd
text_of_the_inversion = refl

text_of_a_mirror_plane : lines_of_both 1 (record { a11 = pos 0; a12 = negsuc 0; a13 = pos 0; a21 = negsuc 0; a22 = pos 0; a23 = pos 0; a31 = pos 0; a32 = pos 0; a33 = pos 1 }) (record { x = pos 0; y = pos 0; z = pos 0 }) ≡ codes "-y,-x,z,+1\n-y,-x,z,-1\n"
unfolding parts_text digits gcd
text_of_a_mirror_plane = refl

text_of_a_fourfold_rotoinversion : lines_of_both 1 (record { a11 = pos 0; a12 = pos 1; a13 = pos 0; a21 = negsuc 0; a22 = pos 0; a23 = pos 0; a31 = pos 0; a32 = pos 0; a33 = negsuc 0 }) (record { x = pos 0; y = pos 0; z = pos 0 }) ≡ codes "y,-x,-z,+1\ny,-x,-z,-1\n"
unfolding parts_text digits gcd
text_of_a_fourfold_rotoinversion = refl

text_of_a_sixfold_rotation : lines_of_both 1 (record { a11 = pos 1; a12 = negsuc 0; a13 = pos 0; a21 = pos 1; a22 = pos 0; a23 = pos 0; a31 = pos 0; a32 = pos 0; a33 = pos 1 }) (record { x = pos 0; y = pos 0; z = pos 0 }) ≡ codes "x-y,x,z,+1\nx-y,x,z,-1\n"
unfolding parts_text digits gcd
text_of_a_sixfold_rotation = refl

text_of_sums : lines_of_both 1 (record { a11 = pos 0; a12 = pos 0; a13 = pos 1; a21 = pos 1; a22 = pos 1; a23 = pos 1; a31 = pos 0; a32 = pos 1; a33 = negsuc 0 }) (record { x = pos 0; y = pos 0; z = pos 0 }) ≡ codes "z,x+y+z,y-z,+1\nz,x+y+z,y-z,-1\n"
unfolding parts_text digits gcd
text_of_sums = refl

text_of_a_rotation_in_a_skew_cell : lines_of_both 1 (record { a11 = negsuc 6; a12 = negsuc 49; a13 = pos 0; a21 = pos 1; a22 = pos 7; a23 = pos 0; a31 = pos 0; a32 = pos 0; a33 = pos 1 }) (record { x = pos 0; y = pos 0; z = pos 0 }) ≡ codes "-7x-50y,x+7y,z,+1\n-7x-50y,x+7y,z,-1\n"
unfolding parts_text digits gcd
text_of_a_rotation_in_a_skew_cell = refl

text_of_a_screw_rotation : lines_of_both 2 (record { a11 = negsuc 0; a12 = pos 0; a13 = pos 0; a21 = pos 0; a22 = pos 1; a23 = pos 0; a31 = pos 0; a32 = pos 0; a33 = negsuc 0 }) (record { x = pos 1; y = pos 1; z = pos 1 }) ≡ codes "-x+1/2,y+1/2,-z+1/2,+1\n-x+1/2,y+1/2,-z+1/2,-1\n"
unfolding parts_text digits gcd
text_of_a_screw_rotation = refl

text_of_thirds : lines_of_both 3 (record { a11 = pos 1; a12 = pos 0; a13 = pos 0; a21 = pos 0; a22 = pos 1; a23 = pos 0; a31 = pos 0; a32 = pos 0; a33 = pos 1 }) (record { x = pos 2; y = pos 0; z = pos 1 }) ≡ codes "x+2/3,y,z+1/3,+1\nx+2/3,y,z+1/3,-1\n"
unfolding parts_text digits gcd
text_of_thirds = refl

text_of_quarters : lines_of_both 4 (record { a11 = pos 1; a12 = pos 0; a13 = pos 0; a21 = pos 0; a22 = pos 1; a23 = pos 0; a31 = pos 0; a32 = pos 0; a33 = pos 1 }) (record { x = pos 2; y = pos 3; z = pos 0 }) ≡ codes "x+1/2,y+3/4,z,+1\nx+1/2,y+3/4,z,-1\n"
unfolding parts_text digits gcd
text_of_quarters = refl

text_of_large_entries : lines_of_both 1 (record { a11 = pos 123456789012345; a12 = pos 0; a13 = pos 0; a21 = negsuc 0; a22 = negsuc 0; a23 = negsuc 0; a31 = pos 0; a32 = pos 0; a33 = negsuc 999999999999998 }) (record { x = pos 0; y = pos 0; z = pos 0 }) ≡ codes "123456789012345x,-x-y-z,-999999999999999z,+1\n123456789012345x,-x-y-z,-999999999999999z,-1\n"
unfolding parts_text digits gcd
text_of_large_entries = refl

-- ---- entries

entries_row_by_row : entries_text (record { a11 = pos 1; a12 = pos 2; a13 = negsuc 2; a21 = pos 0; a22 = negsuc 0; a23 = pos 12; a31 = pos 7; a32 = pos 8; a33 = pos 9 }) ≡ codes " 1 2 -3 0 -1 12 7 8 9"
unfolding digits
entries_row_by_row = refl
