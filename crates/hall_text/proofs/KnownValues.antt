-- A product of a worked symbol; lines that are rows, and their form; the texts of faults.
use Rattle.std.specs.Prelude.{◌≡◌, ℕ, List, [], ◌∷◌, ◌++◌, true, false, pos, negsuc, codes}
use Rattle.std.specs.Fmt.{digits}
use Rattle.std.proofs.Common.{refl}
use Rattle.numbers.specs.Residue.{residue}
use Rattle.crystal_spec.specs.declared.Sign.TheVariants.{Same}
use Rattle.hall_symbol.specs.Compositions.{then}
use Rattle.hall_symbol.specs.Symbols.{generators}
use Rattle.hall_symbol.specs.Rotations.{rotation_in}
use Rattle.hall_symbol.specs.Tokens.{token_in}
use Rattle.hall_symbol.specs.Spelling.{symbol_of}
use Rattle.hall_symbol.specs.declared.fault.HallFault.TheVariants.{NoAxis}
use Rattle.plain_text.specs.Text.{has_bad_byte}
use Rattle.hall_text.specs.declared.fault.RowFault.TheVariants as faults
use Rattle.hall_text.specs.Products.{product_of}
use Rattle.hall_text.specs.RowTexts.{row_text}
use Rattle.hall_text.specs.Tables.{is_skipped, rows, is_row_form}

two_one_after_the_other : product_of (generators (symbol_of (codes "P 31 2c (0 0 1)"))) ≡ record { matrix = record { a11 = negsuc 0; a12 = pos 1; a13 = pos 0; a21 = pos 0; a22 = pos 1; a23 = pos 0; a31 = pos 0; a32 = pos 0; a33 = negsuc 0 }; translation = record { x = pos 0; y = pos 0; z = pos 4 }; sign = Same }
unfolding then generators symbol_of token_in rotation_in residue
two_one_after_the_other = refl

lines_that_are_rows : rows (codes "# a P 1\n\n  \n #\nb P 1\r\nc  P 2") ≡ codes "b P 1" ∷ codes "c  P 2" ∷ []
unfolding rows is_skipped
lines_that_are_rows = refl

tabs_are_spaces : rows (codes "b\tP\t1\n\t\n") ≡ codes "b P 1" ∷ []
unfolding rows is_skipped
tabs_are_spaces = refl

eight_bytes : List ℕ
eight_bytes = codes "aaaaaaaa"

name_of_32_bytes : is_row_form (eight_bytes ++ eight_bytes ++ eight_bytes ++ eight_bytes ++ codes " P 1") ≡ true
unfolding eight_bytes is_row_form has_bad_byte
name_of_32_bytes = refl

name_of_33_bytes : is_row_form (eight_bytes ++ eight_bytes ++ eight_bytes ++ eight_bytes ++ codes "a P 1") ≡ false
unfolding eight_bytes is_row_form has_bad_byte
name_of_33_bytes = refl

name_alone : is_row_form (codes "P4/mmm ") ≡ false
unfolding is_row_form has_bad_byte
name_alone = refl

byte_past_the_last : is_row_form (97 ∷ 32 ∷ 127 ∷ []) ≡ false
unfolding is_row_form has_bad_byte
byte_past_the_last = refl

text_of_a_symbol_fault : row_text (faults.Symbol (NoAxis 2)) ≡ codes "token 2 needs an axis"
unfolding digits
text_of_a_symbol_fault = refl

text_of_too_many_matrices : row_text faults.TooManyMatrices ≡ codes "more than 48 matrices"
text_of_too_many_matrices = refl

text_of_too_many_rows : row_text faults.TooManyRows ≡ codes "more than 4000 rows"
unfolding digits
text_of_too_many_rows = refl

text_of_a_bad_row : row_text faults.BadRow ≡ codes "row has no known form"
text_of_a_bad_row = refl
