-- What texts spell, and why others are refused.
use Rattle.std.specs.Prelude.{◌≡◌, ℕ, Bool, true, false, List, [], ◌∷◌, ◌++◌, map, Some, None, pos, negsuc, length, replicate, codes}
use Rattle.std.specs.List.{flat_map}
use Rattle.std.proofs.Common.{refl}
use Rattle.numbers.specs.Gcd.{gcd, lcm}
use Rattle.numbers.specs.Fraction.{lowest}
use Rattle.numbers.specs.Residue.{residue}
use Rattle.crystal_spec.specs.declared.MomentKind.{MomentKind}
use Rattle.crystal_spec.specs.Moments.{axial_vectors}
use Rattle.cell_text.specs.declared.fault.CellFault.TheVariants.{NotMagcell, BadByte, BadLine, BadNumber, NumberRange, ZeroDenominator, MetricTwice, KindTwice, KindLate, MetricMissing, MetricRange, NotPositive, PositionRange, MomentRange, TooManyAtoms, NoAtom, SamePlace, NoEnd, AfterEnd}
use Rattle.crystal_spec.specs.Crystals.{Structure}
use Rattle.plain_text.specs.Text.{lines, has_bad_byte}
use Rattle.cell_text.specs.declared.version.Version.TheVariants.{One, Two}
use Rattle.cell_text.specs.Lines.{skipped, metric_entry, atom_entry, end_entry, kind_entry, other_entry, word_fault, version_of, entry_of}
use Rattle.plain_text.specs.NumberWords.{number_fault, number_value}
use Rattle.cell_text.specs.Entries.{state_after, is_metric_in_range, is_positive, are_positions_in_range, are_moments_in_range, positions, moments}
use Rattle.cell_text.specs.Rules.{cell_fault, heading_fault, later_fault, metric_fault, kind_fault, atom_fault, place_fault, end_fault, same_place, fault_after}
use Rattle.cell_text.specs.CellFile.{names_of, cell_with, cell_of}

-- the lines, each ended by LF
abbrev text_of : List (List ℕ) → List ℕ
text_of ls = flat_map (λ l. l ++ 10 ∷ []) ls

nonmagnetic : cell_fault (text_of (codes "magcell 1" ∷ codes "metric 1 1 1 0 0 0" ∷ codes "atom A 0 0 0" ∷ codes "end" ∷ [])) ≡ None
unfolding cell_fault heading_fault later_fault metric_fault atom_fault place_fault end_fault state_after version_of entry_of has_bad_byte is_metric_in_range is_positive are_positions_in_range are_moments_in_range positions moments same_place gcd lcm word_fault number_fault number_value lowest
nonmagnetic = refl

ferromagnet : cell_fault (text_of (codes "magcell 1" ∷ codes "metric 1 1 1 0 0 0" ∷ codes "atom A 0 0 0 0 0 1" ∷ codes "end" ∷ [])) ≡ None
unfolding cell_fault heading_fault later_fault metric_fault atom_fault place_fault end_fault state_after version_of entry_of has_bad_byte is_metric_in_range is_positive are_positions_in_range are_moments_in_range positions moments same_place gcd lcm word_fault number_fault number_value lowest
ferromagnet = refl

same_position : cell_fault (text_of (codes "magcell 1" ∷ codes "metric 1 1 1 0 0 0" ∷ codes "atom A 0 0 0" ∷ codes "atom B 1 0 0" ∷ codes "end" ∷ [])) ≡ Some (4, SamePlace 1 2)
unfolding cell_fault heading_fault later_fault metric_fault atom_fault place_fault end_fault state_after version_of entry_of has_bad_byte is_metric_in_range is_positive are_positions_in_range are_moments_in_range positions moments same_place gcd lcm word_fault number_fault number_value lowest
same_position = refl

flat_metric : cell_fault (text_of (codes "magcell 1" ∷ codes "metric 1 1 1 0 0 1" ∷ codes "atom A 0 0 0" ∷ codes "end" ∷ [])) ≡ Some (2, NotPositive)
unfolding cell_fault heading_fault later_fault metric_fault atom_fault place_fault end_fault state_after version_of entry_of has_bad_byte is_metric_in_range is_positive are_positions_in_range are_moments_in_range positions moments same_place gcd lcm word_fault number_fault number_value lowest
flat_metric = refl

no_metric_line : cell_fault (text_of (codes "magcell 1" ∷ codes "atom A 0 0 0" ∷ codes "end" ∷ [])) ≡ Some (3, MetricMissing)
unfolding cell_fault heading_fault later_fault metric_fault atom_fault place_fault end_fault state_after version_of entry_of has_bad_byte is_metric_in_range is_positive are_positions_in_range are_moments_in_range positions moments same_place gcd lcm word_fault number_fault number_value lowest
no_metric_line = refl

no_atom_line : cell_fault (text_of (codes "magcell 1" ∷ codes "metric 1 1 1 0 0 0" ∷ codes "end" ∷ [])) ≡ Some (3, NoAtom)
unfolding cell_fault heading_fault later_fault metric_fault atom_fault place_fault end_fault state_after version_of entry_of has_bad_byte is_metric_in_range is_positive are_positions_in_range are_moments_in_range positions moments same_place gcd lcm word_fault number_fault number_value lowest
no_atom_line = refl

large_moment : cell_fault (text_of (codes "magcell 1" ∷ codes "metric 1 1 1 0 0 0" ∷ codes "atom A 0 0 0 0 0 1000000001" ∷ codes "end" ∷ [])) ≡ Some (3, MomentRange)
unfolding cell_fault heading_fault later_fault metric_fault atom_fault place_fault end_fault state_after version_of entry_of has_bad_byte is_metric_in_range is_positive are_positions_in_range are_moments_in_range positions moments same_place gcd lcm word_fault number_fault number_value lowest
large_moment = refl

largest_moment : cell_fault (text_of (codes "magcell 1" ∷ codes "metric 1 1 1 0 0 0" ∷ codes "atom A 0 0 0 0 0 1000000000" ∷ codes "end" ∷ [])) ≡ None
unfolding cell_fault heading_fault later_fault metric_fault atom_fault place_fault end_fault state_after version_of entry_of has_bad_byte is_metric_in_range is_positive are_positions_in_range are_moments_in_range positions moments same_place gcd lcm word_fault number_fault number_value lowest
largest_moment = refl

moment_grown_by_a_later_denominator : cell_fault (text_of (codes "magcell 1" ∷ codes "metric 1 1 1 0 0 0" ∷ codes "atom A 0 0 0 0 0 1000000000" ∷ codes "atom A 1/2 0 0 0 0 1/2" ∷ codes "end" ∷ [])) ≡ Some (4, MomentRange)
unfolding cell_fault heading_fault later_fault metric_fault atom_fault place_fault end_fault state_after version_of entry_of has_bad_byte is_metric_in_range is_positive are_positions_in_range are_moments_in_range positions moments same_place gcd lcm word_fault number_fault number_value lowest
moment_grown_by_a_later_denominator = refl

largest_denominator : cell_fault (text_of (codes "magcell 1" ∷ codes "metric 1 1 1 0 0 0" ∷ codes "atom A 1/1000000 0 0" ∷ codes "end" ∷ [])) ≡ None
unfolding cell_fault heading_fault later_fault metric_fault atom_fault place_fault end_fault state_after version_of entry_of has_bad_byte is_metric_in_range is_positive are_positions_in_range are_moments_in_range positions moments same_place gcd lcm word_fault number_fault number_value lowest
largest_denominator = refl

large_denominator : cell_fault (text_of (codes "magcell 1" ∷ codes "metric 1 1 1 0 0 0" ∷ codes "atom A 1/1000001 0 0" ∷ codes "end" ∷ [])) ≡ Some (3, PositionRange)
unfolding cell_fault heading_fault later_fault metric_fault atom_fault place_fault end_fault state_after version_of entry_of has_bad_byte is_metric_in_range is_positive are_positions_in_range are_moments_in_range positions moments same_place gcd lcm word_fault number_fault number_value lowest
large_denominator = refl

zero : cell_fault (text_of (codes "magcell 1" ∷ codes "metric 1 1 1 0 0 0" ∷ codes "atom A 1/0 0 0" ∷ codes "end" ∷ [])) ≡ Some (3, ZeroDenominator)
unfolding cell_fault heading_fault later_fault metric_fault atom_fault place_fault end_fault state_after version_of entry_of has_bad_byte is_metric_in_range is_positive are_positions_in_range are_moments_in_range positions moments same_place gcd lcm word_fault number_fault number_value lowest
zero = refl

digits : cell_fault (text_of (codes "magcell 1" ∷ codes "metric 1 1 1 0 0 0" ∷ codes "atom A 1000000000000000000 0 0" ∷ codes "end" ∷ [])) ≡ Some (3, NumberRange)
unfolding cell_fault heading_fault later_fault metric_fault atom_fault place_fault end_fault state_after version_of entry_of has_bad_byte is_metric_in_range is_positive are_positions_in_range are_moments_in_range positions moments same_place gcd lcm word_fault number_fault number_value lowest
digits = refl

point : cell_fault (text_of (codes "magcell 1" ∷ codes "metric 1 1 1 0 0 0" ∷ codes "atom A 1. 0 0" ∷ codes "end" ∷ [])) ≡ Some (3, BadNumber)
unfolding cell_fault heading_fault later_fault metric_fault atom_fault place_fault end_fault state_after version_of entry_of has_bad_byte is_metric_in_range is_positive are_positions_in_range are_moments_in_range positions moments same_place gcd lcm word_fault number_fault number_value lowest
point = refl

half : cell_fault (text_of (codes "magcell 1" ∷ codes "metric 1 1 1 0 0 0" ∷ codes "atom A 2/4 0 0" ∷ codes "end" ∷ [])) ≡ None
unfolding cell_fault heading_fault later_fault metric_fault atom_fault place_fault end_fault state_after version_of entry_of has_bad_byte is_metric_in_range is_positive are_positions_in_range are_moments_in_range positions moments same_place gcd lcm word_fault number_fault number_value lowest
half = refl

metric : cell_fault (text_of (codes "magcell 1" ∷ codes "metric 1000000001 1 1 0 0 0" ∷ codes "atom A 0 0 0" ∷ codes "end" ∷ [])) ≡ Some (2, MetricRange)
unfolding cell_fault heading_fault later_fault metric_fault atom_fault place_fault end_fault state_after version_of entry_of has_bad_byte is_metric_in_range is_positive are_positions_in_range are_moments_in_range positions moments same_place gcd lcm word_fault number_fault number_value lowest
metric = refl

last_metric : cell_fault (text_of (codes "magcell 1" ∷ codes "metric 1000000000 1 1 0 0 0" ∷ codes "atom A 0 0 0" ∷ codes "end" ∷ [])) ≡ None
unfolding cell_fault heading_fault later_fault metric_fault atom_fault place_fault end_fault state_after version_of entry_of has_bad_byte is_metric_in_range is_positive are_positions_in_range are_moments_in_range positions moments same_place gcd lcm word_fault number_fault number_value lowest
last_metric = refl

no_end : cell_fault (text_of (codes "magcell 1" ∷ codes "metric 1 1 1 0 0 0" ∷ codes "atom A 0 0 0 0 0 1" ∷ [])) ≡ Some (4, NoEnd)
unfolding cell_fault heading_fault later_fault metric_fault atom_fault place_fault end_fault state_after version_of entry_of has_bad_byte is_metric_in_range is_positive are_positions_in_range are_moments_in_range positions moments same_place gcd lcm word_fault number_fault number_value lowest
no_end = refl

behind_the_end : cell_fault (text_of (codes "magcell 1" ∷ codes "metric 1 1 1 0 0 0" ∷ codes "atom A 0 0 0 0 0 1" ∷ codes "end" ∷ codes "atom B 1/2 0 0" ∷ [])) ≡ Some (5, AfterEnd)
unfolding cell_fault heading_fault later_fault metric_fault atom_fault place_fault end_fault state_after version_of entry_of has_bad_byte is_metric_in_range is_positive are_positions_in_range are_moments_in_range positions moments same_place gcd lcm word_fault number_fault number_value lowest
behind_the_end = refl

empty : cell_fault [] ≡ Some (1, NotMagcell)
unfolding cell_fault heading_fault later_fault metric_fault atom_fault place_fault end_fault state_after version_of entry_of has_bad_byte is_metric_in_range is_positive are_positions_in_range are_moments_in_range positions moments same_place gcd lcm word_fault number_fault number_value lowest
empty = refl

cut_metric_line : cell_fault (text_of (codes "magcell 1" ∷ []) ++ codes "metric 1 1 1 0 0") ≡ Some (2, BadLine)
unfolding cell_fault heading_fault later_fault metric_fault atom_fault place_fault end_fault state_after version_of entry_of has_bad_byte is_metric_in_range is_positive are_positions_in_range are_moments_in_range positions moments same_place gcd lcm word_fault number_fault number_value lowest
cut_metric_line = refl

returns : cell_fault (text_of ((codes "magcell 1" ++ (13 ∷ [])) ∷ (codes "metric 1 1 1 0 0 0" ++ (13 ∷ [])) ∷ (codes "atom A 0 0 0 0 0 1" ++ (13 ∷ [])) ∷ (codes "end" ++ (13 ∷ [])) ∷ [])) ≡ None
unfolding cell_fault heading_fault later_fault metric_fault atom_fault place_fault end_fault state_after version_of entry_of has_bad_byte is_metric_in_range is_positive are_positions_in_range are_moments_in_range positions moments same_place gcd lcm word_fault number_fault number_value lowest
returns = refl

lone_return : cell_fault (text_of (codes "magcell 1" ∷ []) ++ (13 ∷ [])) ≡ Some (3, NoEnd)
unfolding cell_fault heading_fault later_fault metric_fault atom_fault place_fault end_fault state_after version_of entry_of has_bad_byte is_metric_in_range is_positive are_positions_in_range are_moments_in_range positions moments same_place gcd lcm word_fault number_fault number_value lowest
lone_return = refl

two_returns : cell_fault (text_of (codes "magcell 1" ∷ (codes "metric 1 1 1 0 0 0" ++ (13 ∷ []) ++ (13 ∷ [])) ∷ [])) ≡ Some (2, BadByte)
unfolding cell_fault heading_fault later_fault metric_fault atom_fault place_fault end_fault state_after version_of entry_of has_bad_byte is_metric_in_range is_positive are_positions_in_range are_moments_in_range positions moments same_place gcd lcm word_fault number_fault number_value lowest
two_returns = refl

comment : cell_fault (text_of (codes "magcell 1" ∷ (codes "  #" ++ (13 ∷ []) ++ (1 ∷ []) ++ (255 ∷ []) ++ (13 ∷ [])) ∷ codes "metric 1 1 1 0 0 0" ∷ codes "atom A 0 0 0" ∷ codes "end" ∷ [])) ≡ None
unfolding cell_fault heading_fault later_fault metric_fault atom_fault place_fault end_fault state_after version_of entry_of has_bad_byte is_metric_in_range is_positive are_positions_in_range are_moments_in_range positions moments same_place gcd lcm word_fault number_fault number_value lowest
comment = refl

first_line_comment : cell_fault (text_of ((codes "#" ++ (255 ∷ [])) ∷ [])) ≡ Some (1, BadByte)
unfolding cell_fault heading_fault later_fault metric_fault atom_fault place_fault end_fault state_after version_of entry_of has_bad_byte is_metric_in_range is_positive are_positions_in_range are_moments_in_range positions moments same_place gcd lcm word_fault number_fault number_value lowest
first_line_comment = refl

blank_first : cell_fault (text_of ([] ∷ codes "magcell 1" ∷ [])) ≡ Some (1, NotMagcell)
unfolding cell_fault heading_fault later_fault metric_fault atom_fault place_fault end_fault state_after version_of entry_of has_bad_byte is_metric_in_range is_positive are_positions_in_range are_moments_in_range positions moments same_place gcd lcm word_fault number_fault number_value lowest
blank_first = refl

minus : cell_fault (text_of (codes "magcell 1" ∷ []) ++ codes "metric - 1 1 0 0 0") ≡ Some (2, BadNumber)
unfolding cell_fault heading_fault later_fault metric_fault atom_fault place_fault end_fault state_after version_of entry_of has_bad_byte is_metric_in_range is_positive are_positions_in_range are_moments_in_range positions moments same_place gcd lcm word_fault number_fault number_value lowest
minus = refl

slash_first : cell_fault (text_of (codes "magcell 1" ∷ []) ++ codes "metric 1/ 1 1 0 0 0") ≡ Some (2, BadNumber)
unfolding cell_fault heading_fault later_fault metric_fault atom_fault place_fault end_fault state_after version_of entry_of has_bad_byte is_metric_in_range is_positive are_positions_in_range are_moments_in_range positions moments same_place gcd lcm word_fault number_fault number_value lowest
slash_first = refl

two_slashes : cell_fault (text_of (codes "magcell 1" ∷ []) ++ codes "metric 1/1/1 1 1 0 0 0") ≡ Some (2, BadNumber)
unfolding cell_fault heading_fault later_fault metric_fault atom_fault place_fault end_fault state_after version_of entry_of has_bad_byte is_metric_in_range is_positive are_positions_in_range are_moments_in_range positions moments same_place gcd lcm word_fault number_fault number_value lowest
two_slashes = refl

order : cell_fault (text_of (codes "magcell 1" ∷ []) ++ codes "metric 1/0 x 1 0 0 0") ≡ Some (2, ZeroDenominator)
unfolding cell_fault heading_fault later_fault metric_fault atom_fault place_fault end_fault state_after version_of entry_of has_bad_byte is_metric_in_range is_positive are_positions_in_range are_moments_in_range positions moments same_place gcd lcm word_fault number_fault number_value lowest
order = refl

other_version : cell_fault (text_of (codes "magcell 3" ∷ [])) ≡ Some (1, NotMagcell)
unfolding cell_fault heading_fault later_fault metric_fault atom_fault place_fault end_fault state_after version_of entry_of has_bad_byte is_metric_in_range is_positive are_positions_in_range are_moments_in_range positions moments same_place gcd lcm word_fault number_fault number_value lowest
other_version = refl

comment_before_the_heading : cell_fault (text_of ((codes "#" ++ (255 ∷ [])) ∷ codes "magcell 1" ∷ [])) ≡ Some (1, BadByte)
unfolding cell_fault heading_fault later_fault metric_fault atom_fault place_fault end_fault state_after version_of entry_of has_bad_byte is_metric_in_range is_positive are_positions_in_range are_moments_in_range positions moments same_place gcd lcm word_fault number_fault number_value lowest
comment_before_the_heading = refl

zero_byte : cell_fault (text_of (codes "magcell 1" ∷ (0 ∷ []) ∷ [])) ≡ Some (2, BadByte)
unfolding cell_fault heading_fault later_fault metric_fault atom_fault place_fault end_fault state_after version_of entry_of has_bad_byte is_metric_in_range is_positive are_positions_in_range are_moments_in_range positions moments same_place gcd lcm word_fault number_fault number_value lowest
zero_byte = refl

name_of_a_digit : cell_fault (text_of (codes "magcell 1" ∷ codes "atom 1A 0 0 0" ∷ [])) ≡ Some (2, BadLine)
unfolding cell_fault heading_fault later_fault metric_fault atom_fault place_fault end_fault state_after version_of entry_of has_bad_byte is_metric_in_range is_positive are_positions_in_range are_moments_in_range positions moments same_place gcd lcm word_fault number_fault number_value lowest
name_of_a_digit = refl

name_of_nine_letters : cell_fault (text_of (codes "magcell 1" ∷ codes "atom Manganese 0 0 0" ∷ [])) ≡ Some (2, BadLine)
unfolding cell_fault heading_fault later_fault metric_fault atom_fault place_fault end_fault state_after version_of entry_of has_bad_byte is_metric_in_range is_positive are_positions_in_range are_moments_in_range positions moments same_place gcd lcm word_fault number_fault number_value lowest
name_of_nine_letters = refl

name_of_eight_letters : cell_fault (text_of (codes "magcell 1" ∷ codes "metric 1 1 1 0 0 0" ∷ codes "atom Chromium 0 0 0" ∷ codes "end" ∷ [])) ≡ None
unfolding cell_fault heading_fault later_fault metric_fault atom_fault place_fault end_fault state_after version_of entry_of has_bad_byte is_metric_in_range is_positive are_positions_in_range are_moments_in_range positions moments same_place gcd lcm word_fault number_fault number_value lowest
name_of_eight_letters = refl

decimal_before_the_metric : cell_fault (text_of (codes "magcell 1" ∷ codes "atom A 0.5 0 0" ∷ [])) ≡ Some (2, BadNumber)
unfolding cell_fault heading_fault later_fault metric_fault atom_fault place_fault end_fault state_after version_of entry_of has_bad_byte is_metric_in_range is_positive are_positions_in_range are_moments_in_range positions moments same_place gcd lcm word_fault number_fault number_value lowest
decimal_before_the_metric = refl

moment_of_one_number : cell_fault (text_of (codes "magcell 1" ∷ codes "atom A 0 0 0 1" ∷ [])) ≡ Some (2, BadLine)
unfolding cell_fault heading_fault later_fault metric_fault atom_fault place_fault end_fault state_after version_of entry_of has_bad_byte is_metric_in_range is_positive are_positions_in_range are_moments_in_range positions moments same_place gcd lcm word_fault number_fault number_value lowest
moment_of_one_number = refl

point_before_the_metric : cell_fault (text_of (codes "magcell 1" ∷ codes "atom A 1. 0 0" ∷ [])) ≡ Some (2, BadNumber)
unfolding cell_fault heading_fault later_fault metric_fault atom_fault place_fault end_fault state_after version_of entry_of has_bad_byte is_metric_in_range is_positive are_positions_in_range are_moments_in_range positions moments same_place gcd lcm word_fault number_fault number_value lowest
point_before_the_metric = refl

first_of_two_numbers : cell_fault (text_of (codes "magcell 1" ∷ codes "atom A 0 - 1/0" ∷ [])) ≡ Some (2, BadNumber)
unfolding cell_fault heading_fault later_fault metric_fault atom_fault place_fault end_fault state_after version_of entry_of has_bad_byte is_metric_in_range is_positive are_positions_in_range are_moments_in_range positions moments same_place gcd lcm word_fault number_fault number_value lowest
first_of_two_numbers = refl

nineteen_digits : cell_fault (text_of (codes "magcell 1" ∷ codes "atom A 0 1234567890123456789 0" ∷ [])) ≡ Some (2, NumberRange)
unfolding cell_fault heading_fault later_fault metric_fault atom_fault place_fault end_fault state_after version_of entry_of has_bad_byte is_metric_in_range is_positive are_positions_in_range are_moments_in_range positions moments same_place gcd lcm word_fault number_fault number_value lowest
nineteen_digits = refl

zero_in_the_metric : cell_fault (text_of (codes "magcell 1" ∷ codes "# a comment" ∷ codes "metric 1 1 1/0 0 0 0" ∷ [])) ≡ Some (3, ZeroDenominator)
unfolding cell_fault heading_fault later_fault metric_fault atom_fault place_fault end_fault state_after version_of entry_of has_bad_byte is_metric_in_range is_positive are_positions_in_range are_moments_in_range positions moments same_place gcd lcm word_fault number_fault number_value lowest
zero_in_the_metric = refl

metric_again : cell_fault (text_of (codes "magcell 1" ∷ codes "metric 1 1 1 0 0 0" ∷ codes "metric 1 1 1 0 0 0" ∷ [])) ≡ Some (3, MetricTwice)
unfolding cell_fault heading_fault later_fault metric_fault atom_fault place_fault end_fault state_after version_of entry_of has_bad_byte is_metric_in_range is_positive are_positions_in_range are_moments_in_range positions moments same_place gcd lcm word_fault number_fault number_value lowest
metric_again = refl

metric_again_before_its_numbers : cell_fault (text_of (codes "magcell 1" ∷ codes "metric 1 1 1 0 0 0" ∷ codes "# once more" ∷ codes "metric x 1 1 0 0 0" ∷ [])) ≡ Some (4, MetricTwice)
unfolding cell_fault heading_fault later_fault metric_fault atom_fault place_fault end_fault state_after version_of entry_of has_bad_byte is_metric_in_range is_positive are_positions_in_range are_moments_in_range positions moments same_place gcd lcm word_fault number_fault number_value lowest
metric_again_before_its_numbers = refl

metric_of_one_line : cell_fault (text_of (codes "magcell 1" ∷ codes "metric 1 1 1 1 0 0" ∷ [])) ≡ Some (2, NotPositive)
unfolding cell_fault heading_fault later_fault metric_fault atom_fault place_fault end_fault state_after version_of entry_of has_bad_byte is_metric_in_range is_positive are_positions_in_range are_moments_in_range positions moments same_place gcd lcm word_fault number_fault number_value lowest
metric_of_one_line = refl

large_denominator_before_the_metric : cell_fault (text_of (codes "magcell 1" ∷ codes "atom A 1/1000001 0 0" ∷ [])) ≡ Some (2, PositionRange)
unfolding cell_fault heading_fault later_fault metric_fault atom_fault place_fault end_fault state_after version_of entry_of has_bad_byte is_metric_in_range is_positive are_positions_in_range are_moments_in_range positions moments same_place gcd lcm word_fault number_fault number_value lowest
large_denominator_before_the_metric = refl

large_common_denominator : cell_fault (text_of (codes "magcell 1" ∷ codes "atom A 1/1000 0 0" ∷ codes "atom B 1/999 1/7 0" ∷ [])) ≡ Some (3, PositionRange)
unfolding cell_fault heading_fault later_fault metric_fault atom_fault place_fault end_fault state_after version_of entry_of has_bad_byte is_metric_in_range is_positive are_positions_in_range are_moments_in_range positions moments same_place gcd lcm word_fault number_fault number_value lowest
large_common_denominator = refl

large_moment_before_the_metric : cell_fault (text_of (codes "magcell 1" ∷ codes "atom A 0 0 0 0 0 1000000001" ∷ [])) ≡ Some (2, MomentRange)
unfolding cell_fault heading_fault later_fault metric_fault atom_fault place_fault end_fault state_after version_of entry_of has_bad_byte is_metric_in_range is_positive are_positions_in_range are_moments_in_range positions moments same_place gcd lcm word_fault number_fault number_value lowest
large_moment_before_the_metric = refl

moment_grown_before_the_metric : cell_fault (text_of (codes "magcell 1" ∷ codes "atom A 0 0 0 0 0 1000000000" ∷ codes "atom A 1/2 0 0 0 0 1/2" ∷ [])) ≡ Some (3, MomentRange)
unfolding cell_fault heading_fault later_fault metric_fault atom_fault place_fault end_fault state_after version_of entry_of has_bad_byte is_metric_in_range is_positive are_positions_in_range are_moments_in_range positions moments same_place gcd lcm word_fault number_fault number_value lowest
moment_grown_before_the_metric = refl

same_position_but_for_cells : cell_fault (text_of (codes "magcell 1" ∷ codes "atom A 0 0 1/2" ∷ codes "atom B 1/3 0 0" ∷ codes "atom C -2/3 5 -3" ∷ [])) ≡ Some (4, SamePlace 2 3)
unfolding cell_fault heading_fault later_fault metric_fault atom_fault place_fault end_fault state_after version_of entry_of has_bad_byte is_metric_in_range is_positive are_positions_in_range are_moments_in_range positions moments same_place gcd lcm word_fault number_fault number_value lowest
same_position_but_for_cells = refl

end_again : cell_fault (text_of (codes "magcell 1" ∷ codes "metric 1 1 1 0 0 0" ∷ codes "atom A 0 0 0" ∷ codes "end" ∷ codes "end" ∷ [])) ≡ Some (5, AfterEnd)
unfolding cell_fault heading_fault later_fault metric_fault atom_fault place_fault end_fault state_after version_of entry_of has_bad_byte is_metric_in_range is_positive are_positions_in_range are_moments_in_range positions moments same_place gcd lcm word_fault number_fault number_value lowest
end_again = refl

behind_a_blank_line : cell_fault (text_of (codes "magcell 1" ∷ codes "metric 1 1 1 0 0 0" ∷ codes "atom A 0 0 0" ∷ codes "end" ∷ [] ∷ codes "atom B 1/2 0 0" ∷ [])) ≡ Some (6, AfterEnd)
unfolding cell_fault heading_fault later_fault metric_fault atom_fault place_fault end_fault state_after version_of entry_of has_bad_byte is_metric_in_range is_positive are_positions_in_range are_moments_in_range positions moments same_place gcd lcm word_fault number_fault number_value lowest
behind_a_blank_line = refl

antiferromagnet : cell_of (lines (text_of (codes "magcell 1" ∷ codes "metric 1 1 4 0 0 0" ∷ codes "atom A 0 0 0 0 0 1" ∷ codes "atom A 0 0 1/2 0 0 -1" ∷ codes "end" ∷ []))) ≡ record { names = (65 ∷ []) ∷ []; scale = pos 1; metric = record { a11 = pos 1; a12 = pos 0; a13 = pos 0; a21 = pos 0; a22 = pos 1; a23 = pos 0; a31 = pos 0; a32 = pos 0; a33 = pos 4 }; n = 2; k = 1; kind = axial_vectors; atoms = record { species = 0; position = record { x = pos 0; y = pos 0; z = pos 0 }; moment = record { x = pos 0; y = pos 0; z = pos 1 } } ∷ record { species = 0; position = record { x = pos 0; y = pos 0; z = pos 1 }; moment = record { x = pos 0; y = pos 0; z = negsuc 0 } } ∷ [] }
unfolding cell_fault heading_fault later_fault metric_fault atom_fault place_fault end_fault state_after version_of entry_of has_bad_byte is_metric_in_range is_positive are_positions_in_range are_moments_in_range positions moments same_place gcd lcm word_fault number_fault number_value lowest names_of cell_with residue
antiferromagnet = refl

manganese_fluoride : cell_of (lines (text_of (codes "magcell 1" ∷ codes "metric 2375/100 2375/100 1096/100 0 0 0" ∷ codes "atom Mn 0 0 0 0 0 1" ∷ codes "atom Mn 1/2 1/2 1/2 0 0 -1" ∷ codes "atom F 61/200 61/200 0" ∷ codes "atom F -61/200 -61/200 0" ∷ codes "atom F 161/200 39/200 1/2" ∷ codes "atom F 39/200 161/200 1/2" ∷ codes "end" ∷ []))) ≡ record { names = (77 ∷ 110 ∷ []) ∷ (70 ∷ []) ∷ []; scale = pos 100; metric = record { a11 = pos 2375; a12 = pos 0; a13 = pos 0; a21 = pos 0; a22 = pos 2375; a23 = pos 0; a31 = pos 0; a32 = pos 0; a33 = pos 1096 }; n = 200; k = 1; kind = axial_vectors; atoms = record { species = 0; position = record { x = pos 0; y = pos 0; z = pos 0 }; moment = record { x = pos 0; y = pos 0; z = pos 1 } } ∷ record { species = 0; position = record { x = pos 100; y = pos 100; z = pos 100 }; moment = record { x = pos 0; y = pos 0; z = negsuc 0 } } ∷ record { species = 1; position = record { x = pos 61; y = pos 61; z = pos 0 }; moment = record { x = pos 0; y = pos 0; z = pos 0 } } ∷ record { species = 1; position = record { x = pos 139; y = pos 139; z = pos 0 }; moment = record { x = pos 0; y = pos 0; z = pos 0 } } ∷ record { species = 1; position = record { x = pos 161; y = pos 39; z = pos 100 }; moment = record { x = pos 0; y = pos 0; z = pos 0 } } ∷ record { species = 1; position = record { x = pos 39; y = pos 161; z = pos 100 }; moment = record { x = pos 0; y = pos 0; z = pos 0 } } ∷ [] }
unfolding cell_fault heading_fault later_fault metric_fault atom_fault place_fault end_fault state_after version_of entry_of has_bad_byte is_metric_in_range is_positive are_positions_in_range are_moments_in_range positions moments same_place gcd lcm word_fault number_fault number_value lowest names_of cell_with residue
manganese_fluoride = refl

-- three atoms of two species, with n = 6 and k = 2
abbrev three_atoms : Structure
three_atoms = record { names = codes "Mn" ∷ codes "F_1" ∷ []; scale = pos 1; metric = record { a11 = pos 2; a12 = pos 0; a13 = pos 0; a21 = pos 0; a22 = pos 2; a23 = pos 0; a31 = pos 0; a32 = pos 0; a33 = pos 2 }; n = 6; k = 2; kind = axial_vectors; atoms = record { species = 0; position = record { x = pos 0; y = pos 0; z = pos 0 }; moment = record { x = pos 0; y = pos 0; z = pos 1 } } ∷ record { species = 1; position = record { x = pos 3; y = pos 4; z = pos 0 }; moment = record { x = pos 0; y = pos 0; z = pos 0 } } ∷ record { species = 0; position = record { x = pos 3; y = pos 0; z = pos 0 }; moment = record { x = pos 2; y = pos 0; z = pos 0 } } ∷ [] }

three_atoms_in_lowest_terms_and_others : (cell_fault (text_of (codes "magcell 1" ∷ codes "metric 2 2 4/2 0 0 -0" ∷ codes "atom Mn 0 0 0 0 0 1/2" ∷ codes "atom F_1 2/4 -1/3 7" ∷ codes "atom Mn 1/2 0 0 1 0 0" ∷ codes "end" ∷ [])) ≡ None) × (cell_of (lines (text_of (codes "magcell 1" ∷ codes "metric 2 2 4/2 0 0 -0" ∷ codes "atom Mn 0 0 0 0 0 1/2" ∷ codes "atom F_1 2/4 -1/3 7" ∷ codes "atom Mn 1/2 0 0 1 0 0" ∷ codes "end" ∷ []))) ≡ three_atoms)
unfolding cell_fault heading_fault later_fault metric_fault atom_fault place_fault end_fault state_after version_of entry_of has_bad_byte is_metric_in_range is_positive are_positions_in_range are_moments_in_range positions moments same_place gcd lcm word_fault number_fault number_value lowest names_of cell_with residue
three_atoms_in_lowest_terms_and_others = (refl, refl)

three_atoms_between_blanks_and_comments : (cell_fault (text_of (((9 ∷ []) ++ codes "magcell   1 " ++ (13 ∷ [])) ∷ (codes "# a comment " ++ (255 ∷ []) ++ (13 ∷ [])) ∷ (13 ∷ []) ∷ (codes "atom Mn 0 0 0 0 0 1/2" ++ (13 ∷ [])) ∷ (codes "atom F_1 1/2 2/3 0" ++ (13 ∷ [])) ∷ (codes " atom Mn 3/6 -0 0 1 0 0" ++ (13 ∷ [])) ∷ (codes "metric 2 2 2 0 0 0" ++ (13 ∷ [])) ∷ (codes "end" ++ (13 ∷ [])) ∷ (13 ∷ []) ∷ (codes "# behind" ++ (13 ∷ [])) ∷ [])) ≡ None) × (cell_of (lines (text_of (((9 ∷ []) ++ codes "magcell   1 " ++ (13 ∷ [])) ∷ (codes "# a comment " ++ (255 ∷ []) ++ (13 ∷ [])) ∷ (13 ∷ []) ∷ (codes "atom Mn 0 0 0 0 0 1/2" ++ (13 ∷ [])) ∷ (codes "atom F_1 1/2 2/3 0" ++ (13 ∷ [])) ∷ (codes " atom Mn 3/6 -0 0 1 0 0" ++ (13 ∷ [])) ∷ (codes "metric 2 2 2 0 0 0" ++ (13 ∷ [])) ∷ (codes "end" ++ (13 ∷ [])) ∷ (13 ∷ []) ∷ (codes "# behind" ++ (13 ∷ [])) ∷ []))) ≡ three_atoms)
unfolding cell_fault heading_fault later_fault metric_fault atom_fault place_fault end_fault state_after version_of entry_of has_bad_byte is_metric_in_range is_positive are_positions_in_range are_moments_in_range positions moments same_place gcd lcm word_fault number_fault number_value lowest names_of cell_with residue
three_atoms_between_blanks_and_comments = (refl, refl)

-- the units n and k, and how many atoms there are
abbrev units : Structure → ℕ × (ℕ × ℕ)
units c = (c.n, (c.k, length c.atoms))

units_of_the_largest_moment : units (cell_of (lines (text_of (codes "magcell 1" ∷ codes "metric 1 1 1 0 0 0" ∷ codes "atom A 0 0 0 0 0 1000000000" ∷ codes "end" ∷ [])))) ≡ (1, (1, 1))
unfolding cell_fault heading_fault later_fault metric_fault atom_fault place_fault end_fault state_after version_of entry_of has_bad_byte is_metric_in_range is_positive are_positions_in_range are_moments_in_range positions moments same_place gcd lcm word_fault number_fault number_value lowest names_of cell_with residue
units_of_the_largest_moment = refl

units_of_the_largest_denominator : units (cell_of (lines (text_of (codes "magcell 1" ∷ codes "metric 1 1 1 0 0 0" ∷ codes "atom A 1/1000000 0 0" ∷ codes "end" ∷ [])))) ≡ (1000000, (1, 1))
unfolding cell_fault heading_fault later_fault metric_fault atom_fault place_fault end_fault state_after version_of entry_of has_bad_byte is_metric_in_range is_positive are_positions_in_range are_moments_in_range positions moments same_place gcd lcm word_fault number_fault number_value lowest names_of cell_with residue
units_of_the_largest_denominator = refl

units_of_two_quarters : units (cell_of (lines (text_of (codes "magcell 1" ∷ codes "metric 1 1 1 0 0 0" ∷ codes "atom A 2/4 0 0" ∷ codes "end" ∷ [])))) ≡ (2, (1, 1))
unfolding cell_fault heading_fault later_fault metric_fault atom_fault place_fault end_fault state_after version_of entry_of has_bad_byte is_metric_in_range is_positive are_positions_in_range are_moments_in_range positions moments same_place gcd lcm word_fault number_fault number_value lowest names_of cell_with residue
units_of_two_quarters = refl

units_of_the_largest_metric : units (cell_of (lines (text_of (codes "magcell 1" ∷ codes "metric 1000000000 1 1 0 0 0" ∷ codes "atom A 0 0 0" ∷ codes "end" ∷ [])))) ≡ (1, (1, 1))
unfolding cell_fault heading_fault later_fault metric_fault atom_fault place_fault end_fault state_after version_of entry_of has_bad_byte is_metric_in_range is_positive are_positions_in_range are_moments_in_range positions moments same_place gcd lcm word_fault number_fault number_value lowest names_of cell_with residue
units_of_the_largest_metric = refl

units_of_a_third_of_a_moment : units (cell_of (lines (text_of ((codes "magcell 1" ++ (13 ∷ [])) ∷ (codes "metric 1 1 1 0 0 0" ++ (13 ∷ [])) ∷ (codes "atom A 0 0 0 0 0 1/3" ++ (13 ∷ [])) ∷ (codes "end" ++ (13 ∷ [])) ∷ [])))) ≡ (1, (3, 1))
unfolding cell_fault heading_fault later_fault metric_fault atom_fault place_fault end_fault state_after version_of entry_of has_bad_byte is_metric_in_range is_positive are_positions_in_range are_moments_in_range positions moments same_place gcd lcm word_fault number_fault number_value lowest names_of cell_with residue
units_of_a_third_of_a_moment = refl

-- what a line is, whether its words are numbers or not
skipped_lines : map (entry_of One) (codes "" ∷ codes " \t" ∷ codes "# metric" ∷ codes " #end" ∷ []) ≡ skipped ∷ skipped ∷ skipped ∷ skipped ∷ []
unfolding entry_of
skipped_lines = refl

told_lines : map (entry_of One) (codes "metric 1 x 1 0 0 0/0" ∷ codes "atom A 1/2 - 0" ∷ codes "\tatom A 0 0 0  m 0 1" ∷ codes "atom A 0 0 0 s" ∷ codes "end " ∷ [])
    ≡ metric_entry (codes "1" ∷ codes "x" ∷ codes "1" ∷ codes "0" ∷ codes "0" ∷ codes "0/0" ∷ [])
    ∷ atom_entry (codes "A") (codes "1/2" ∷ codes "-" ∷ codes "0" ∷ [])
    ∷ atom_entry (codes "A") (codes "0" ∷ codes "0" ∷ codes "0" ∷ codes "m" ∷ codes "0" ∷ codes "1" ∷ [])
    ∷ atom_entry (codes "A") (codes "0" ∷ codes "0" ∷ codes "0" ∷ codes "s" ∷ [])
    ∷ end_entry
    ∷ []
unfolding entry_of
told_lines = refl

lines_of_no_form : map (entry_of One) (codes "metric 1 1 1 0 0" ∷ codes "metric" ∷ codes "atom" ∷ codes "atom A" ∷ codes "atom A 0 0 0 0 0" ∷ codes "atom 1 0 0 0" ∷ codes "end end" ∷ codes "kind vector axial" ∷ codes "Metric 1 1 1 0 0 0" ∷ [])
    ≡ other_entry ∷ other_entry ∷ other_entry ∷ other_entry ∷ other_entry ∷ other_entry ∷ other_entry ∷ other_entry ∷ other_entry ∷ []
unfolding entry_of
lines_of_no_form = refl

versions : map version_of (codes "magcell 1" ∷ codes " magcell\t1 " ∷ codes "magcell 2" ∷ codes "magcell 3" ∷ codes "magcell 1 1" ∷ codes "magcell1" ∷ codes "# magcell 1" ∷ codes "" ∷ []) ≡ Some One ∷ Some One ∷ Some Two ∷ None ∷ None ∷ None ∷ None ∷ None ∷ []
unfolding version_of
versions = refl

-- ---- kinds of moments

abbrev kind : Bool → Bool → MomentKind
kind vector axial = record { vector = vector; axial = axial }

kind_lines : map (entry_of Two) (codes "kind scalar" ∷ codes "kind vector" ∷ codes "kind scalar axial" ∷ codes " kind\tscalar plain " ∷ codes "kind vector axial" ∷ codes "kind vector plain" ∷ [])
    ≡ kind_entry (kind false false) ∷ kind_entry (kind true true) ∷ kind_entry (kind false true) ∷ kind_entry (kind false false) ∷ kind_entry (kind true true) ∷ kind_entry (kind true false) ∷ []
unfolding entry_of
kind_lines = refl

kind_lines_of_no_form : map (entry_of Two) (codes "kind" ∷ codes "kind axial" ∷ codes "kind scalar vector" ∷ codes "kind scalar axial axial" ∷ codes "kind Scalar" ∷ codes "kinds scalar" ∷ [])
    ≡ other_entry ∷ other_entry ∷ other_entry ∷ other_entry ∷ other_entry ∷ other_entry ∷ []
unfolding entry_of
kind_lines_of_no_form = refl

kind_in_version_1 : cell_fault (text_of (codes "magcell 1" ∷ codes "kind vector" ∷ [])) ≡ Some (2, BadLine)
unfolding cell_fault heading_fault later_fault metric_fault kind_fault atom_fault place_fault end_fault state_after version_of entry_of has_bad_byte is_metric_in_range is_positive are_positions_in_range are_moments_in_range positions moments same_place gcd lcm word_fault number_fault number_value lowest
kind_in_version_1 = refl

kind_twice : cell_fault (text_of (codes "magcell 2" ∷ codes "kind scalar" ∷ codes "kind scalar" ∷ [])) ≡ Some (3, KindTwice)
unfolding cell_fault heading_fault later_fault metric_fault kind_fault atom_fault place_fault end_fault state_after version_of entry_of has_bad_byte is_metric_in_range is_positive are_positions_in_range are_moments_in_range positions moments same_place gcd lcm word_fault number_fault number_value lowest
kind_twice = refl

-- behind an atom too
kind_twice_and_late : cell_fault (text_of (codes "magcell 2" ∷ codes "kind scalar" ∷ codes "atom A 0 0 0" ∷ codes "kind vector" ∷ [])) ≡ Some (4, KindTwice)
unfolding cell_fault heading_fault later_fault metric_fault kind_fault atom_fault place_fault end_fault state_after version_of entry_of has_bad_byte is_metric_in_range is_positive are_positions_in_range are_moments_in_range positions moments same_place gcd lcm word_fault number_fault number_value lowest
kind_twice_and_late = refl

kind_late : cell_fault (text_of (codes "magcell 2" ∷ codes "metric 1 1 1 0 0 0" ∷ codes "atom A 0 0 0" ∷ codes "kind scalar" ∷ [])) ≡ Some (4, KindLate)
unfolding cell_fault heading_fault later_fault metric_fault kind_fault atom_fault place_fault end_fault state_after version_of entry_of has_bad_byte is_metric_in_range is_positive are_positions_in_range are_moments_in_range positions moments same_place gcd lcm word_fault number_fault number_value lowest
kind_late = refl

scalar_of_three_numbers : cell_fault (text_of (codes "magcell 2" ∷ codes "kind scalar" ∷ codes "metric 1 1 1 0 0 0" ∷ codes "atom A 0 0 0 0 0 1" ∷ [])) ≡ Some (4, BadLine)
unfolding cell_fault heading_fault later_fault metric_fault kind_fault atom_fault place_fault end_fault state_after version_of entry_of has_bad_byte is_metric_in_range is_positive are_positions_in_range are_moments_in_range positions moments same_place gcd lcm word_fault number_fault number_value lowest
scalar_of_three_numbers = refl

vector_of_one_number : cell_fault (text_of (codes "magcell 2" ∷ codes "metric 1 1 1 0 0 0" ∷ codes "atom A 0 0 0 1" ∷ [])) ≡ Some (3, BadLine)
unfolding cell_fault heading_fault later_fault metric_fault kind_fault atom_fault place_fault end_fault state_after version_of entry_of has_bad_byte is_metric_in_range is_positive are_positions_in_range are_moments_in_range positions moments same_place gcd lcm word_fault number_fault number_value lowest
vector_of_one_number = refl

vector_of_one_number_in_version_1 : cell_fault (text_of (codes "magcell 1" ∷ codes "metric 1 1 1 0 0 0" ∷ codes "atom A 0 0 0 x" ∷ [])) ≡ Some (3, BadLine)
unfolding cell_fault heading_fault later_fault metric_fault kind_fault atom_fault place_fault end_fault state_after version_of entry_of has_bad_byte is_metric_in_range is_positive are_positions_in_range are_moments_in_range positions moments same_place gcd lcm word_fault number_fault number_value lowest
vector_of_one_number_in_version_1 = refl

-- the scalars 1, -1/2 and 0
abbrev scalars : List (List ℕ)
scalars = codes "magcell 2" ∷ codes "kind scalar axial" ∷ codes "atom A 0 0 0 1" ∷ codes "atom A 0 0 1/2 -1/2" ∷ codes "atom A 1/2 0 0" ∷ codes "metric 1 1 4 0 0 0" ∷ codes "end" ∷ []

scalars_are_read : (cell_fault (text_of scalars) ≡ None)
    × (cell_of (lines (text_of scalars)) ≡ record { names = (65 ∷ []) ∷ []; scale = pos 1; metric = record { a11 = pos 1; a12 = pos 0; a13 = pos 0; a21 = pos 0; a22 = pos 1; a23 = pos 0; a31 = pos 0; a32 = pos 0; a33 = pos 4 }; n = 2; k = 2; kind = kind false true; atoms = record { species = 0; position = record { x = pos 0; y = pos 0; z = pos 0 }; moment = record { x = pos 2; y = pos 0; z = pos 0 } } ∷ record { species = 0; position = record { x = pos 0; y = pos 0; z = pos 1 }; moment = record { x = negsuc 0; y = pos 0; z = pos 0 } } ∷ record { species = 0; position = record { x = pos 1; y = pos 0; z = pos 0 }; moment = record { x = pos 0; y = pos 0; z = pos 0 } } ∷ [] })
unfolding cell_fault heading_fault later_fault metric_fault kind_fault atom_fault place_fault end_fault state_after version_of entry_of has_bad_byte is_metric_in_range is_positive are_positions_in_range are_moments_in_range positions moments same_place gcd lcm word_fault number_fault number_value lowest names_of cell_with residue
scalars_are_read = (refl, refl)

-- a kind line behind the metric line
abbrev plain_vectors : List (List ℕ)
plain_vectors = codes "magcell 2" ∷ codes "metric 1 1 4 0 0 0" ∷ codes "kind vector plain" ∷ codes "atom A 0 0 0 0 0 1" ∷ codes "end" ∷ []

plain_vectors_are_read : (cell_fault (text_of plain_vectors) ≡ None) × ((cell_of (lines (text_of plain_vectors))).kind ≡ kind true false)
unfolding cell_fault heading_fault later_fault metric_fault kind_fault atom_fault place_fault end_fault state_after version_of entry_of has_bad_byte is_metric_in_range is_positive are_positions_in_range are_moments_in_range positions moments same_place gcd lcm word_fault number_fault number_value lowest names_of cell_with residue
plain_vectors_are_read = (refl, refl)

-- version 2 without a kind line
vectors_by_default : (cell_of (lines (text_of (codes "magcell 2" ∷ codes "metric 1 1 4 0 0 0" ∷ codes "atom A 0 0 0 0 0 1" ∷ codes "end" ∷ [])))).kind ≡ axial_vectors
unfolding cell_fault heading_fault later_fault metric_fault kind_fault atom_fault place_fault end_fault state_after version_of entry_of has_bad_byte is_metric_in_range is_positive are_positions_in_range are_moments_in_range positions moments same_place gcd lcm word_fault number_fault number_value lowest names_of cell_with residue
vectors_by_default = refl

-- ---- decimals

decimal_in_version_1 : cell_fault (text_of (codes "magcell 1" ∷ codes "metric 1 1 1 0 0 0" ∷ codes "atom A 0.5 0 0" ∷ [])) ≡ Some (3, BadNumber)
unfolding cell_fault heading_fault later_fault metric_fault kind_fault atom_fault place_fault end_fault state_after version_of entry_of has_bad_byte is_metric_in_range is_positive are_positions_in_range are_moments_in_range positions moments same_place gcd lcm word_fault number_fault number_value lowest
decimal_in_version_1 = refl

decimal_in_version_2 : cell_fault (text_of (codes "magcell 2" ∷ codes "metric 1 1 1 0 0 0" ∷ codes "atom A 0.5 0 0" ∷ codes "end" ∷ [])) ≡ None
unfolding cell_fault heading_fault later_fault metric_fault kind_fault atom_fault place_fault end_fault state_after version_of entry_of has_bad_byte is_metric_in_range is_positive are_positions_in_range are_moments_in_range positions moments same_place gcd lcm word_fault number_fault number_value lowest
decimal_in_version_2 = refl

-- 10^7 is no denominator of positions
seven_digits_behind_the_point : cell_fault (text_of (codes "magcell 2" ∷ codes "metric 1 1 1 0 0 0" ∷ codes "atom A 0.1234567 0 0" ∷ [])) ≡ Some (3, PositionRange)
unfolding cell_fault heading_fault later_fault metric_fault kind_fault atom_fault place_fault end_fault state_after version_of entry_of has_bad_byte is_metric_in_range is_positive are_positions_in_range are_moments_in_range positions moments same_place gcd lcm word_fault number_fault number_value lowest
seven_digits_behind_the_point = refl

numbers_in_version_2 : map (word_fault Two) (codes "0.25" ∷ codes "-0.0" ∷ codes "00.50" ∷ codes "-7" ∷ codes "1/4" ∷ (codes "0." ++ replicate 17 57) ∷ (replicate 17 57 ++ codes ".9") ∷ []) ≡ replicate 7 None
unfolding word_fault number_fault
numbers_in_version_2 = refl

no_numbers_in_version_2 : map (word_fault Two) (codes "1." ∷ codes ".5" ∷ codes "." ∷ codes "1.5/2" ∷ codes "1/2.5" ∷ codes "1e3" ∷ codes "1.2.3" ∷ []) ≡ replicate 7 (Some BadNumber)
unfolding word_fault number_fault
no_numbers_in_version_2 = refl

-- 19 digits before and behind the point together
long_numbers_in_version_2 : map (word_fault Two) ((codes "0." ++ replicate 18 57) ∷ (replicate 18 57 ++ codes ".0") ∷ (codes "-1.5" ++ replicate 17 48) ∷ replicate 19 48 ∷ []) ≡ replicate 4 (Some NumberRange)
unfolding word_fault number_fault
long_numbers_in_version_2 = refl

over_zero_in_version_2 : word_fault Two (codes "1/0") ≡ Some ZeroDenominator
unfolding word_fault number_fault
over_zero_in_version_2 = refl

-- a point is no part of a number, however many digits there are
no_decimals_in_version_1 : map (word_fault One) (codes "0.25" ∷ codes "-0.0" ∷ codes "1." ∷ codes ".5" ∷ codes "1.5/2" ∷ codes "1/2.5" ∷ codes "1e3" ∷ (codes "0." ++ replicate 18 57) ∷ []) ≡ replicate 8 (Some BadNumber)
unfolding word_fault number_fault
no_decimals_in_version_1 = refl

-- the first word that is no number is told, with its own rule
first_word_in_version_2 : cell_fault (text_of (codes "magcell 2" ∷ (codes "metric 1.5 0." ++ replicate 18 49 ++ codes " 1. 1/0 0 0") ∷ [])) ≡ Some (2, NumberRange)
unfolding cell_fault heading_fault later_fault metric_fault kind_fault atom_fault place_fault end_fault state_after version_of entry_of has_bad_byte is_metric_in_range is_positive are_positions_in_range are_moments_in_range positions moments same_place gcd lcm word_fault number_fault number_value lowest
first_word_in_version_2 = refl

first_word_in_version_1 : cell_fault (text_of (codes "magcell 1" ∷ (codes "metric 1 0." ++ replicate 18 49 ++ codes " 1. 1/0 0 0") ∷ [])) ≡ Some (2, BadNumber)
unfolding cell_fault heading_fault later_fault metric_fault kind_fault atom_fault place_fault end_fault state_after version_of entry_of has_bad_byte is_metric_in_range is_positive are_positions_in_range are_moments_in_range positions moments same_place gcd lcm word_fault number_fault number_value lowest
first_word_in_version_1 = refl

-- decimals and the fractions that they are spell one cell
abbrev decimal_cell : List (List ℕ)
decimal_cell = codes "magcell 2" ∷ codes "metric 23.75 23.75 10.96 0 0 -0.0" ∷ codes "atom Mn 0.50 0.5 1.5 0 0 -1.25" ∷ codes "atom F 0.305 -0.305 0" ∷ codes "end" ∷ []

abbrev fraction_cell : List (List ℕ)
fraction_cell = codes "magcell 2" ∷ codes "metric 95/4 95/4 274/25 0 0 0" ∷ codes "atom Mn 1/2 1/2 3/2 0 0 -5/4" ∷ codes "atom F 61/200 -61/200 0" ∷ codes "end" ∷ []

decimals_are_fractions : (cell_fault (text_of decimal_cell) ≡ None) × (cell_of (lines (text_of decimal_cell)) ≡ cell_of (lines (text_of fraction_cell)))
unfolding cell_fault heading_fault later_fault metric_fault kind_fault atom_fault place_fault end_fault state_after version_of entry_of has_bad_byte is_metric_in_range is_positive are_positions_in_range are_moments_in_range positions moments same_place gcd lcm word_fault number_fault number_value lowest names_of cell_with residue
decimals_are_fractions = (refl, refl)

-- ---- the number of atoms

-- the 1,025th atom line
too_many : fault_after (codes "magcell 1" ∷ replicate 1024 (codes "atom A 0 0 0")) (codes "atom A 0 0 0") ≡ Some TooManyAtoms
unfolding cell_fault heading_fault later_fault metric_fault atom_fault place_fault end_fault state_after version_of entry_of has_bad_byte is_metric_in_range is_positive are_positions_in_range are_moments_in_range positions moments same_place gcd lcm word_fault number_fault number_value lowest
too_many = refl

-- the 1,024th, which breaks a later rule
not_too_many : fault_after (codes "magcell 1" ∷ replicate 1023 (codes "atom A 0 0 0")) (codes "atom A 0 0 0") ≡ Some (SamePlace 1 1024)
unfolding cell_fault heading_fault later_fault metric_fault atom_fault place_fault end_fault state_after version_of entry_of has_bad_byte is_metric_in_range is_positive are_positions_in_range are_moments_in_range positions moments same_place gcd lcm word_fault number_fault number_value lowest
not_too_many = refl
