-- What texts spell, and why others are refused; matrices and translations of worked symbols; the texts of faults.
use Rattle.std.specs.Prelude.{◌≡◌, [], ◌∷◌, Some, None, pos, negsuc, codes}
use Rattle.std.specs.Fmt.{digits}
use Rattle.std.proofs.Common.{refl}
use Rattle.numbers.specs.Residue.{residue}
use Rattle.crystal_spec.specs.declared.Sign.TheVariants.{Same, Reversed}
use Rattle.hall_symbol.specs.declared.fault.HallFault.TheVariants.{Empty, BadLattice, BadToken, NoAxis, BadScrew, TooManyTokens, BadShift}
use Rattle.hall_symbol.specs.FaultTexts.{fault_text}
use Rattle.hall_symbol.specs.Symbols.{generators}
use Rattle.hall_symbol.specs.TokenForms.{is_token_form}
use Rattle.hall_symbol.specs.Rotations.{rotation_in, is_screw_right}
use Rattle.hall_symbol.specs.Tokens.{token_fault, token_in}
use Rattle.hall_symbol.specs.Spelling.{is_shift_form, symbol_fault, symbol_of}

empty_word : symbol_fault (codes "") ≡ Some Empty
unfolding symbol_fault token_fault is_token_form rotation_in is_screw_right is_shift_form token_in
empty_word = refl

spaces_alone : symbol_fault (codes "   ") ≡ Some Empty
unfolding symbol_fault token_fault is_token_form rotation_in is_screw_right is_shift_form token_in
spaces_alone = refl

unknown_lattice : symbol_fault (codes "Q 2") ≡ Some BadLattice
unfolding symbol_fault token_fault is_token_form rotation_in is_screw_right is_shift_form token_in
unknown_lattice = refl

no_token : symbol_fault (codes "P") ≡ Some (BadToken 1)
unfolding symbol_fault token_fault is_token_form rotation_in is_screw_right is_shift_form token_in
no_token = refl

order_five : symbol_fault (codes "P 5") ≡ Some (BadToken 1)
unfolding symbol_fault token_fault is_token_form rotation_in is_screw_right is_shift_form token_in
order_five = refl

second_fourfold : symbol_fault (codes "P 4 4") ≡ Some (NoAxis 2)
unfolding symbol_fault token_fault is_token_form rotation_in is_screw_right is_shift_form token_in
second_fourfold = refl

screw_not_below_the_order : symbol_fault (codes "P 22") ≡ Some (BadScrew 1)
unfolding symbol_fault token_fault is_token_form rotation_in is_screw_right is_shift_form token_in
screw_not_below_the_order = refl

screw_of_order_one : symbol_fault (codes "P 11") ≡ Some (BadScrew 1)
unfolding symbol_fault token_fault is_token_form rotation_in is_screw_right is_shift_form token_in
screw_of_order_one = refl

six_tokens : symbol_fault (codes "P 1 1 1 1 1 1") ≡ Some TooManyTokens
unfolding symbol_fault token_fault is_token_form rotation_in is_screw_right is_shift_form token_in
six_tokens = refl

bad_sixth_token : symbol_fault (codes "P 1 1 1 1 1 x") ≡ Some TooManyTokens
unfolding symbol_fault token_fault is_token_form rotation_in is_screw_right is_shift_form token_in
bad_sixth_token = refl

five_tokens : symbol_fault (codes "P 1 1 1 1 1") ≡ None
unfolding symbol_fault token_fault is_token_form rotation_in is_screw_right is_shift_form token_in
five_tokens = refl

two_numbers : symbol_fault (codes "P 2 (0 0)") ≡ Some BadShift
unfolding symbol_fault token_fault is_token_form rotation_in is_screw_right is_shift_form token_in
two_numbers = refl

shift_without_token : symbol_fault (codes "P (0 0 1)") ≡ Some (BadToken 1)
unfolding symbol_fault token_fault is_token_form rotation_in is_screw_right is_shift_form token_in
shift_without_token = refl

bracket_in_the_first_word : symbol_fault (codes "P(0 0 1)") ≡ Some BadLattice
unfolding symbol_fault token_fault is_token_form rotation_in is_screw_right is_shift_form token_in
bracket_in_the_first_word = refl

bracket_ends_a_token : symbol_fault (codes "P 2(0 0 1)") ≡ None
unfolding symbol_fault token_fault is_token_form rotation_in is_screw_right is_shift_form token_in
bracket_ends_a_token = refl

text_behind_the_shift : symbol_fault (codes "P 2 (0 0 1) x") ≡ Some BadShift
unfolding symbol_fault token_fault is_token_form rotation_in is_screw_right is_shift_form token_in
text_behind_the_shift = refl

spaces_behind_the_shift : symbol_fault (codes "  -P 2  ( -1  02 3 )  ") ≡ None
unfolding symbol_fault token_fault is_token_form rotation_in is_screw_right is_shift_form token_in
spaces_behind_the_shift = refl

three_digits : symbol_fault (codes "P 2 (0 0 100)") ≡ Some BadShift
unfolding symbol_fault token_fault is_token_form rotation_in is_screw_right is_shift_form token_in
three_digits = refl

twofold_behind_order_one : symbol_fault (codes "P 1 2") ≡ Some (NoAxis 2)
unfolding symbol_fault token_fault is_token_form rotation_in is_screw_right is_shift_form token_in
twofold_behind_order_one = refl

threefold_diagonal_first : symbol_fault (codes "P 3*") ≡ None
unfolding symbol_fault token_fault is_token_form rotation_in is_screw_right is_shift_form token_in
threefold_diagonal_first = refl

screw_on_a_diagonal : symbol_fault (codes "P 31*") ≡ Some (BadScrew 1)
unfolding symbol_fault token_fault is_token_form rotation_in is_screw_right is_shift_form token_in
screw_on_a_diagonal = refl

default_diagonal : symbol_fault (codes "P 4 2 3") ≡ None
unfolding symbol_fault token_fault is_token_form rotation_in is_screw_right is_shift_form token_in
default_diagonal = refl

third_fourfold : symbol_fault (codes "P 4 2 4") ≡ Some (NoAxis 3)
unfolding symbol_fault token_fault is_token_form rotation_in is_screw_right is_shift_form token_in
third_fourfold = refl

identity_with_axis : symbol_fault (codes "P 1z") ≡ Some (BadToken 1)
unfolding symbol_fault token_fault is_token_form rotation_in is_screw_right is_shift_form token_in
identity_with_axis = refl

threefold_with_prime : symbol_fault (codes "P 3'") ≡ Some (BadToken 1)
unfolding symbol_fault token_fault is_token_form rotation_in is_screw_right is_shift_form token_in
threefold_with_prime = refl

twofold_with_star : symbol_fault (codes "P 2*") ≡ Some (BadToken 1)
unfolding symbol_fault token_fault is_token_form rotation_in is_screw_right is_shift_form token_in
twofold_with_star = refl

unknown_letter : symbol_fault (codes "P 2e") ≡ Some (BadToken 1)
unfolding symbol_fault token_fault is_token_form rotation_in is_screw_right is_shift_form token_in
unknown_letter = refl

letter_behind_the_mark : symbol_fault (codes "P 2!a") ≡ Some (BadToken 1)
unfolding symbol_fault token_fault is_token_form rotation_in is_screw_right is_shift_form token_in
letter_behind_the_mark = refl

tab : symbol_fault (80 ∷ 9 ∷ 50 ∷ []) ≡ Some BadLattice
unfolding symbol_fault token_fault is_token_form rotation_in is_screw_right is_shift_form token_in
tab = refl

first_fault_from_the_left : symbol_fault (codes "P 22 5 (") ≡ Some (BadScrew 1)
unfolding symbol_fault token_fault is_token_form rotation_in is_screw_right is_shift_form token_in
first_fault_from_the_left = refl

form_before_axis : symbol_fault (codes "P 4 3'") ≡ Some (BadToken 2)
unfolding symbol_fault token_fault is_token_form rotation_in is_screw_right is_shift_form token_in
form_before_axis = refl

rutile : symbol_fault (codes "-P 4n 2n") ≡ None
unfolding symbol_fault token_fault is_token_form rotation_in is_screw_right is_shift_form token_in
rutile = refl

magnetic_rutile : symbol_fault (codes "-P 4n! 2n") ≡ None
unfolding symbol_fault token_fault is_token_form rotation_in is_screw_right is_shift_form token_in
magnetic_rutile = refl

screw_and_shift : symbol_fault (codes "P 31 2c (0 0 1)") ≡ None
unfolding symbol_fault token_fault is_token_form rotation_in is_screw_right is_shift_form token_in
screw_and_shift = refl

operations_of_a_shifted_symbol : generators (symbol_of (codes "P 31 2c (0 0 1)")) ≡ record { matrix = record { a11 = pos 0; a12 = negsuc 0; a13 = pos 0; a21 = pos 1; a22 = negsuc 0; a23 = pos 0; a31 = pos 0; a32 = pos 0; a33 = pos 1 }; translation = record { x = pos 0; y = pos 0; z = pos 4 }; sign = Same } ∷ record { matrix = record { a11 = pos 0; a12 = negsuc 0; a13 = pos 0; a21 = negsuc 0; a22 = pos 0; a23 = pos 0; a31 = pos 0; a32 = pos 0; a33 = negsuc 0 }; translation = record { x = pos 0; y = pos 0; z = pos 8 }; sign = Same } ∷ []
unfolding generators symbol_of token_in rotation_in residue
operations_of_a_shifted_symbol = refl

operations_of_magnetic_rutile : generators (symbol_of (codes "-P 4n! 2n")) ≡ record { matrix = record { a11 = negsuc 0; a12 = pos 0; a13 = pos 0; a21 = pos 0; a22 = negsuc 0; a23 = pos 0; a31 = pos 0; a32 = pos 0; a33 = negsuc 0 }; translation = record { x = pos 0; y = pos 0; z = pos 0 }; sign = Same } ∷ record { matrix = record { a11 = pos 0; a12 = negsuc 0; a13 = pos 0; a21 = pos 1; a22 = pos 0; a23 = pos 0; a31 = pos 0; a32 = pos 0; a33 = pos 1 }; translation = record { x = pos 6; y = pos 6; z = pos 6 }; sign = Reversed } ∷ record { matrix = record { a11 = pos 1; a12 = pos 0; a13 = pos 0; a21 = pos 0; a22 = negsuc 0; a23 = pos 0; a31 = pos 0; a32 = pos 0; a33 = negsuc 0 }; translation = record { x = pos 6; y = pos 6; z = pos 6 }; sign = Same } ∷ []
unfolding generators symbol_of token_in rotation_in residue
operations_of_magnetic_rutile = refl

operations_of_a_doubled_cell : generators (symbol_of (codes "P 1c!")) ≡ record { matrix = record { a11 = pos 1; a12 = pos 0; a13 = pos 0; a21 = pos 0; a22 = pos 1; a23 = pos 0; a31 = pos 0; a32 = pos 0; a33 = pos 1 }; translation = record { x = pos 0; y = pos 0; z = pos 6 }; sign = Reversed } ∷ []
unfolding generators symbol_of token_in rotation_in residue
operations_of_a_doubled_cell = refl

operations_of_diamond : generators (symbol_of (codes "F 4d 2 3")) ≡ record { matrix = record { a11 = pos 1; a12 = pos 0; a13 = pos 0; a21 = pos 0; a22 = pos 1; a23 = pos 0; a31 = pos 0; a32 = pos 0; a33 = pos 1 }; translation = record { x = pos 0; y = pos 6; z = pos 6 }; sign = Same } ∷ record { matrix = record { a11 = pos 1; a12 = pos 0; a13 = pos 0; a21 = pos 0; a22 = pos 1; a23 = pos 0; a31 = pos 0; a32 = pos 0; a33 = pos 1 }; translation = record { x = pos 6; y = pos 0; z = pos 6 }; sign = Same } ∷ record { matrix = record { a11 = pos 1; a12 = pos 0; a13 = pos 0; a21 = pos 0; a22 = pos 1; a23 = pos 0; a31 = pos 0; a32 = pos 0; a33 = pos 1 }; translation = record { x = pos 6; y = pos 6; z = pos 0 }; sign = Same } ∷ record { matrix = record { a11 = pos 0; a12 = negsuc 0; a13 = pos 0; a21 = pos 1; a22 = pos 0; a23 = pos 0; a31 = pos 0; a32 = pos 0; a33 = pos 1 }; translation = record { x = pos 3; y = pos 3; z = pos 3 }; sign = Same } ∷ record { matrix = record { a11 = pos 1; a12 = pos 0; a13 = pos 0; a21 = pos 0; a22 = negsuc 0; a23 = pos 0; a31 = pos 0; a32 = pos 0; a33 = negsuc 0 }; translation = record { x = pos 0; y = pos 0; z = pos 0 }; sign = Same } ∷ record { matrix = record { a11 = pos 0; a12 = pos 0; a13 = pos 1; a21 = pos 1; a22 = pos 0; a23 = pos 0; a31 = pos 0; a32 = pos 1; a33 = pos 0 }; translation = record { x = pos 0; y = pos 0; z = pos 0 }; sign = Same } ∷ []
unfolding generators symbol_of token_in rotation_in residue
operations_of_diamond = refl

prime_behind_a_diagonal : generators (symbol_of (codes "P 3* 2'")) ≡ record { matrix = record { a11 = pos 0; a12 = pos 0; a13 = pos 1; a21 = pos 1; a22 = pos 0; a23 = pos 0; a31 = pos 0; a32 = pos 1; a33 = pos 0 }; translation = record { x = pos 0; y = pos 0; z = pos 0 }; sign = Same } ∷ record { matrix = record { a11 = pos 0; a12 = negsuc 0; a13 = pos 0; a21 = negsuc 0; a22 = pos 0; a23 = pos 0; a31 = pos 0; a32 = pos 0; a33 = negsuc 0 }; translation = record { x = pos 0; y = pos 0; z = pos 0 }; sign = Same } ∷ []
unfolding generators symbol_of token_in rotation_in residue
prime_behind_a_diagonal = refl

prime_behind_an_axis : generators (symbol_of (codes "P 2x 2'")) ≡ record { matrix = record { a11 = pos 1; a12 = pos 0; a13 = pos 0; a21 = pos 0; a22 = negsuc 0; a23 = pos 0; a31 = pos 0; a32 = pos 0; a33 = negsuc 0 }; translation = record { x = pos 0; y = pos 0; z = pos 0 }; sign = Same } ∷ record { matrix = record { a11 = negsuc 0; a12 = pos 0; a13 = pos 0; a21 = pos 0; a22 = pos 0; a23 = negsuc 0; a31 = pos 0; a32 = negsuc 0; a33 = pos 0 }; translation = record { x = pos 0; y = pos 0; z = pos 0 }; sign = Same } ∷ []
unfolding generators symbol_of token_in rotation_in residue
prime_behind_an_axis = refl

rhombohedral_lattice_and_default_prime : generators (symbol_of (codes "R 3 2")) ≡ record { matrix = record { a11 = pos 1; a12 = pos 0; a13 = pos 0; a21 = pos 0; a22 = pos 1; a23 = pos 0; a31 = pos 0; a32 = pos 0; a33 = pos 1 }; translation = record { x = pos 8; y = pos 4; z = pos 4 }; sign = Same } ∷ record { matrix = record { a11 = pos 1; a12 = pos 0; a13 = pos 0; a21 = pos 0; a22 = pos 1; a23 = pos 0; a31 = pos 0; a32 = pos 0; a33 = pos 1 }; translation = record { x = pos 4; y = pos 8; z = pos 8 }; sign = Same } ∷ record { matrix = record { a11 = pos 0; a12 = negsuc 0; a13 = pos 0; a21 = pos 1; a22 = negsuc 0; a23 = pos 0; a31 = pos 0; a32 = pos 0; a33 = pos 1 }; translation = record { x = pos 0; y = pos 0; z = pos 0 }; sign = Same } ∷ record { matrix = record { a11 = pos 0; a12 = negsuc 0; a13 = pos 0; a21 = negsuc 0; a22 = pos 0; a23 = pos 0; a31 = pos 0; a32 = pos 0; a33 = negsuc 0 }; translation = record { x = pos 0; y = pos 0; z = pos 0 }; sign = Same } ∷ []
unfolding generators symbol_of token_in rotation_in residue
rhombohedral_lattice_and_default_prime = refl

screw_axis_of_order_six : generators (symbol_of (codes "P 61")) ≡ record { matrix = record { a11 = pos 1; a12 = negsuc 0; a13 = pos 0; a21 = pos 1; a22 = pos 0; a23 = pos 0; a31 = pos 0; a32 = pos 0; a33 = pos 1 }; translation = record { x = pos 0; y = pos 0; z = pos 2 }; sign = Same } ∷ []
unfolding generators symbol_of token_in rotation_in residue
screw_axis_of_order_six = refl

double_prime_behind_a_fourfold_axis : generators (symbol_of (codes "P 4 2=")) ≡ record { matrix = record { a11 = pos 0; a12 = negsuc 0; a13 = pos 0; a21 = pos 1; a22 = pos 0; a23 = pos 0; a31 = pos 0; a32 = pos 0; a33 = pos 1 }; translation = record { x = pos 0; y = pos 0; z = pos 0 }; sign = Same } ∷ record { matrix = record { a11 = pos 0; a12 = pos 1; a13 = pos 0; a21 = pos 1; a22 = pos 0; a23 = pos 0; a31 = pos 0; a32 = pos 0; a33 = negsuc 0 }; translation = record { x = pos 0; y = pos 0; z = pos 0 }; sign = Same } ∷ []
unfolding generators symbol_of token_in rotation_in residue
double_prime_behind_a_fourfold_axis = refl

negative_shift : generators (symbol_of (codes "P 2 (-1 0 0)")) ≡ record { matrix = record { a11 = negsuc 0; a12 = pos 0; a13 = pos 0; a21 = pos 0; a22 = negsuc 0; a23 = pos 0; a31 = pos 0; a32 = pos 0; a33 = pos 1 }; translation = record { x = pos 10; y = pos 0; z = pos 0 }; sign = Same } ∷ []
unfolding generators symbol_of token_in rotation_in residue
negative_shift = refl

text_of_an_empty_symbol : fault_text Empty ≡ codes "symbol is empty"
text_of_an_empty_symbol = refl

text_of_a_bad_lattice : fault_text BadLattice ≡ codes "unknown lattice"
text_of_a_bad_lattice = refl

text_of_a_bad_token : fault_text (BadToken 1) ≡ codes "token 1 has no known form"
unfolding digits
text_of_a_bad_token = refl

text_of_a_missing_axis : fault_text (NoAxis 2) ≡ codes "token 2 needs an axis"
unfolding digits
text_of_a_missing_axis = refl

text_of_a_bad_screw : fault_text (BadScrew 5) ≡ codes "token 5 has a wrong screw digit"
unfolding digits
text_of_a_bad_screw = refl

text_of_six_tokens : fault_text TooManyTokens ≡ codes "more than five tokens"
text_of_six_tokens = refl

text_of_a_bad_shift : fault_text BadShift ≡ codes "shift has no known form"
text_of_a_bad_shift = refl
