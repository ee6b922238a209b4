-- What some words ask for.
use Rattle.std.proofs.Common.{◌≡◌, ◌∷◌, [], refl}
use Rattle.std.specs.Prelude.{codes, true, false, Some, None, pos, neg_ℤ}
use Rattle.std.specs.declared.result.Result.TheVariants.{Ok, Err}
use Rattle.command_words.specs.declared.command.Command.TheVariants.{Symmetry, Primitive, Dataset, Orbits, Hall, Identify, Standard, Compare, Moments, Fill, Selfrun}
use Rattle.command_words.specs.declared.command.UsageFault.TheVariants.{NoCommand, UnknownCommand, UnknownOption, RepeatedOption, MissingValue, BadValue, MissingWord, ExtraWord}
use Rattle.command_words.specs.Commands.{command, argument}

-- ---- words that ask for a command

name_alone : command (codes "symmetry" ∷ []) ≡ Ok (Symmetry true 0 None)
name_alone = refl

without_time_reversal : command (codes "symmetry" ∷ codes "--no-time-reversal" ∷ []) ≡ Ok (Symmetry false 0 None)
without_time_reversal = refl

page : command (codes "symmetry" ∷ codes "--skip" ∷ codes "90" ∷ codes "--take" ∷ codes "10" ∷ []) ≡ Ok (Symmetry true 90 (Some 10))
page = refl

leading_zeros : command (codes "symmetry" ∷ codes "--take" ∷ codes "000000002" ∷ []) ≡ Ok (Symmetry true 0 (Some 2))
leading_zeros = refl

all_options : command (codes "symmetry" ∷ codes "--take" ∷ codes "2" ∷ codes "--no-time-reversal" ∷ codes "--skip" ∷ codes "5" ∷ []) ≡ Ok (Symmetry false 5 (Some 2))
all_options = refl

largest_value : command (codes "symmetry" ∷ codes "--skip" ∷ codes "999999999" ∷ []) ≡ Ok (Symmetry true 999999999 None)
largest_value = refl

primitive_alone : command (codes "primitive" ∷ []) ≡ Ok Primitive
primitive_alone = refl

dataset_alone : command (codes "dataset" ∷ []) ≡ Ok Dataset
dataset_alone = refl

orbits_alone : command (codes "orbits" ∷ []) ≡ Ok Orbits
orbits_alone = refl

symbol : command (codes "hall" ∷ codes "-P 4 2!" ∷ []) ≡ Ok Hall
symbol = refl

symbol_is_the_argument : argument (codes "hall" ∷ codes "-P 4 2!" ∷ []) ≡ codes "-P 4 2!"
symbol_is_the_argument = refl

-- a symbol may begin with anything, and may be empty
symbol_as_option : command (codes "hall" ∷ codes "--skip" ∷ []) ≡ Ok Hall
symbol_as_option = refl

empty_symbol : command (codes "hall" ∷ codes "" ∷ []) ≡ Ok Hall
empty_symbol = refl

table : command (codes "identify" ∷ codes "groups.table" ∷ []) ≡ Ok Identify
table = refl

standard_table : command (codes "standard" ∷ codes "groups.table" ∷ []) ≡ Ok Standard
standard_table = refl

other_cell : command (codes "compare" ∷ codes "other.cell" ∷ []) ≡ Ok Compare
other_cell = refl

moments_alone : command (codes "moments" ∷ []) ≡ Ok Moments
moments_alone = refl

moment_of_an_atom : command (codes "fill" ∷ codes "1" ∷ codes "0" ∷ codes "-3" ∷ codes "999999999" ∷ []) ≡ Ok (Fill (record { atom = 1; a = pos 0; b = neg_ℤ (pos 3); c = pos 999999999 }))
moment_of_an_atom = refl

-- the cell tells whether there is such an atom
atom_zero : command (codes "fill" ∷ codes "0" ∷ codes "-0" ∷ codes "00" ∷ codes "-01" ∷ []) ≡ Ok (Fill (record { atom = 0; a = pos 0; b = pos 0; c = neg_ℤ (pos 1) }))
atom_zero = refl

seed : command (codes "selfrun" ∷ codes "000000001" ∷ []) ≡ Ok (Selfrun 1)
seed = refl

-- ---- words that ask for nothing

no_word : command [] ≡ Err NoCommand
no_word = refl

another_name : command (codes "help" ∷ []) ≡ Err UnknownCommand
another_name = refl

value_after_equals : command (codes "symmetry" ∷ codes "--skip=1" ∷ []) ≡ Err UnknownOption
value_after_equals = refl

name_as_option : command (codes "symmetry" ∷ codes "primitive" ∷ []) ≡ Err UnknownOption
name_as_option = refl

time_twice : command (codes "symmetry" ∷ codes "--no-time-reversal" ∷ codes "--no-time-reversal" ∷ []) ≡ Err RepeatedOption
time_twice = refl

-- a repeated option is told before its missing value
skip_twice : command (codes "symmetry" ∷ codes "--skip" ∷ codes "1" ∷ codes "--skip" ∷ []) ≡ Err RepeatedOption
skip_twice = refl

take_twice : command (codes "symmetry" ∷ codes "--take" ∷ codes "1" ∷ codes "--skip" ∷ codes "2" ∷ codes "--take" ∷ codes "1" ∷ []) ≡ Err RepeatedOption
take_twice = refl

no_value_of_skip : command (codes "symmetry" ∷ codes "--skip" ∷ []) ≡ Err MissingValue
no_value_of_skip = refl

no_value_of_take : command (codes "symmetry" ∷ codes "--skip" ∷ codes "1" ∷ codes "--take" ∷ []) ≡ Err MissingValue
no_value_of_take = refl

letter : command (codes "symmetry" ∷ codes "--take" ∷ codes "x" ∷ []) ≡ Err BadValue
letter = refl

option_as_value : command (codes "symmetry" ∷ codes "--skip" ∷ codes "--skip" ∷ []) ≡ Err BadValue
option_as_value = refl

empty_value : command (codes "symmetry" ∷ codes "--skip" ∷ codes "" ∷ []) ≡ Err BadValue
empty_value = refl

plus_sign : command (codes "symmetry" ∷ codes "--skip" ∷ codes "+1" ∷ []) ≡ Err BadValue
plus_sign = refl

ten_digits : command (codes "symmetry" ∷ codes "--skip" ∷ codes "1234567890" ∷ []) ≡ Err BadValue
ten_digits = refl

-- the first fault from the left is told
bad_value_first : command (codes "symmetry" ∷ codes "--skip" ∷ codes "x" ∷ codes "--foo" ∷ []) ≡ Err BadValue
bad_value_first = refl

word_after_primitive : command (codes "primitive" ∷ codes "x" ∷ []) ≡ Err ExtraWord
word_after_primitive = refl

option_after_primitive : command (codes "primitive" ∷ codes "--skip" ∷ codes "1" ∷ []) ≡ Err ExtraWord
option_after_primitive = refl

word_after_dataset : command (codes "dataset" ∷ codes "x" ∷ []) ≡ Err ExtraWord
word_after_dataset = refl

option_after_orbits : command (codes "orbits" ∷ codes "--skip" ∷ codes "1" ∷ []) ≡ Err ExtraWord
option_after_orbits = refl

no_symbol : command (codes "hall" ∷ []) ≡ Err MissingWord
no_symbol = refl

two_symbols : command (codes "hall" ∷ codes "P" ∷ codes "1" ∷ []) ≡ Err ExtraWord
two_symbols = refl

no_table : command (codes "identify" ∷ []) ≡ Err MissingWord
no_table = refl

no_seed : command (codes "selfrun" ∷ []) ≡ Err MissingWord
no_seed = refl

seed_of_ten_digits : command (codes "selfrun" ∷ codes "1234567890" ∷ []) ≡ Err BadValue
seed_of_ten_digits = refl

-- the word too many is told before the bad seed
bad_seed_and_more : command (codes "selfrun" ∷ codes "x" ∷ codes "1" ∷ []) ≡ Err ExtraWord
bad_seed_and_more = refl

no_table_of_standard : command (codes "standard" ∷ []) ≡ Err MissingWord
no_table_of_standard = refl

two_other_cells : command (codes "compare" ∷ codes "a" ∷ codes "b" ∷ []) ≡ Err ExtraWord
two_other_cells = refl

word_after_moments : command (codes "moments" ∷ codes "1" ∷ []) ≡ Err ExtraWord
word_after_moments = refl

-- the count of words is judged before their values
no_third_component : command (codes "fill" ∷ codes "x" ∷ codes "0" ∷ codes "0" ∷ []) ≡ Err MissingWord
no_third_component = refl

four_components : command (codes "fill" ∷ codes "1" ∷ codes "0" ∷ codes "0" ∷ codes "0" ∷ codes "x" ∷ []) ≡ Err ExtraWord
four_components = refl

negative_atom : command (codes "fill" ∷ codes "-1" ∷ codes "0" ∷ codes "0" ∷ codes "0" ∷ []) ≡ Err BadValue
negative_atom = refl

minus_alone : command (codes "fill" ∷ codes "1" ∷ codes "0" ∷ codes "-" ∷ codes "0" ∷ []) ≡ Err BadValue
minus_alone = refl

fraction_as_component : command (codes "fill" ∷ codes "1" ∷ codes "0" ∷ codes "0" ∷ codes "1/2" ∷ []) ≡ Err BadValue
fraction_as_component = refl

ten_digits_of_a_component : command (codes "fill" ∷ codes "1" ∷ codes "-1234567890" ∷ codes "0" ∷ codes "0" ∷ []) ≡ Err BadValue
ten_digits_of_a_component = refl
