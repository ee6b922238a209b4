-- The lines that tell statuses.
use Rattle.std.proofs.Common.{◌≡◌, refl}
use Rattle.std.specs.Prelude.{codes}
use Rattle.std.specs.Fmt.{digits}
use Rattle.cell_text.specs.declared.fault.CellFault.TheVariants.{NotMagcell, BadByte, BadLine, BadNumber, NumberRange, ZeroDenominator, MetricTwice, KindTwice, KindLate, MetricMissing, MetricRange, NotPositive, PositionRange, MomentRange, TooManyAtoms, NoAtom, SamePlace, NoEnd, AfterEnd}
use Rattle.command_words.specs.declared.command.UsageFault.TheVariants.{NoCommand, UnknownCommand, UnknownOption, RepeatedOption, MissingValue, BadValue, MissingWord, ExtraWord}
use Rattle.hall_symbol.specs.declared.fault.HallFault.TheVariants.{Empty, BadToken}
use Rattle.hall_text.specs.declared.fault.RowFault.TheVariants.{Symbol, TooManyMatrices, TooManyRows, BadRow}
use Rattle.crystal_spec.specs.Matrices.{identity}
use Rattle.report_basis.specs.declared.Kept.TheVariants.{NoBase}
use Rattle.run_status.specs.declared.status.Status.TheVariants.{Done, NoMatch, Different, NotAllowed, Usage, CellTooLong, CellRefused, NoSuchAtom, OtherTooLong, OtherRefused, SymbolRefused, TableRefused, TableTooLong, ReadFault, WriteFault, Memory, TooWide}
use Rattle.status_lines.specs.Statuses.{line_of}

-- ---- lines

line_of_whole_report : line_of (Done NoBase) ≡ codes ""
line_of_whole_report = refl

line_of_no_command : line_of (Usage NoCommand) ≡ codes "magsym: no command\n"
line_of_no_command = refl

line_of_unknown_command : line_of (Usage UnknownCommand) ≡ codes "magsym: unknown command\n"
line_of_unknown_command = refl

line_of_unknown_option : line_of (Usage UnknownOption) ≡ codes "magsym: unknown option\n"
line_of_unknown_option = refl

line_of_repeated_option : line_of (Usage RepeatedOption) ≡ codes "magsym: option given twice\n"
line_of_repeated_option = refl

line_of_missing_value : line_of (Usage MissingValue) ≡ codes "magsym: option needs a value\n"
line_of_missing_value = refl

line_of_bad_value : line_of (Usage BadValue) ≡ codes "magsym: value is not a number of 1 to 9 digits\n"
line_of_bad_value = refl

line_of_missing_word : line_of (Usage MissingWord) ≡ codes "magsym: command needs one more word\n"
line_of_missing_word = refl

line_of_extra_word : line_of (Usage ExtraWord) ≡ codes "magsym: too many words\n"
line_of_extra_word = refl

line_of_long_cell : line_of CellTooLong ≡ codes "magsym: cell is longer than 262144 bytes\n"
line_of_long_cell = refl

line_of_not_magcell : line_of (CellRefused 1 NotMagcell) ≡ codes "magsym: line 1: not a magcell 1 or 2 file\n"
unfolding digits
line_of_not_magcell = refl

line_of_no_atom_of_the_number : line_of NoSuchAtom ≡ codes "magsym: no such atom\n"
line_of_no_atom_of_the_number = refl

line_of_moment_not_allowed : line_of (NotAllowed identity) ≡ codes "magsym: moment is not allowed at this site\n"
line_of_moment_not_allowed = refl

line_of_wide_cell : line_of (TooWide identity) ≡ codes "magsym: standard cell is too large\n"
line_of_wide_cell = refl

line_of_different_crystals : line_of (Different identity identity) ≡ codes ""
line_of_different_crystals = refl

line_of_other_cell : line_of (OtherRefused 12 BadByte) ≡ codes "magsym: other line 12: byte is not plain ASCII\n"
unfolding digits
line_of_other_cell = refl

line_of_long_other_cell : line_of OtherTooLong ≡ codes "magsym: other cell is longer than 262144 bytes\n"
line_of_long_other_cell = refl

line_of_bad_byte : line_of (CellRefused 2 BadByte) ≡ codes "magsym: line 2: byte is not plain ASCII\n"
unfolding digits
line_of_bad_byte = refl

line_of_bad_line : line_of (CellRefused 2 BadLine) ≡ codes "magsym: line 2: line has no known form\n"
unfolding digits
line_of_bad_line = refl

line_of_bad_number : line_of (CellRefused 3 BadNumber) ≡ codes "magsym: line 3: not a number\n"
unfolding digits
line_of_bad_number = refl

line_of_number_range : line_of (CellRefused 3 NumberRange) ≡ codes "magsym: line 3: number has more than 18 digits\n"
unfolding digits
line_of_number_range = refl

line_of_zero_denominator : line_of (CellRefused 3 ZeroDenominator) ≡ codes "magsym: line 3: denominator is zero\n"
unfolding digits
line_of_zero_denominator = refl

line_of_kind_twice : line_of (CellRefused 3 KindTwice) ≡ codes "magsym: line 3: kind is given twice\n"
unfolding digits
line_of_kind_twice = refl

line_of_kind_late : line_of (CellRefused 4 KindLate) ≡ codes "magsym: line 4: kind must stand before the atoms\n"
unfolding digits
line_of_kind_late = refl

line_of_metric_twice : line_of (CellRefused 3 MetricTwice) ≡ codes "magsym: line 3: metric is given twice\n"
unfolding digits
line_of_metric_twice = refl

line_of_metric_missing : line_of (CellRefused 3 MetricMissing) ≡ codes "magsym: line 3: metric is missing\n"
unfolding digits
line_of_metric_missing = refl

line_of_metric_range : line_of (CellRefused 2 MetricRange) ≡ codes "magsym: line 2: metric is out of range\n"
unfolding digits
line_of_metric_range = refl

line_of_not_positive : line_of (CellRefused 2 NotPositive) ≡ codes "magsym: line 2: metric is not positive\n"
unfolding digits
line_of_not_positive = refl

line_of_position_range : line_of (CellRefused 3 PositionRange) ≡ codes "magsym: line 3: positions have no common denominator up to 1000000\n"
unfolding digits
line_of_position_range = refl

line_of_moment_range : line_of (CellRefused 4 MomentRange) ≡ codes "magsym: line 4: moments are out of range\n"
unfolding digits
line_of_moment_range = refl

line_of_too_many_atoms : line_of (CellRefused 515 TooManyAtoms) ≡ codes "magsym: line 515: more than 1024 atoms\n"
unfolding digits
line_of_too_many_atoms = refl

line_of_no_atom : line_of (CellRefused 3 NoAtom) ≡ codes "magsym: line 3: no atom\n"
unfolding digits
line_of_no_atom = refl

line_of_same_place : line_of (CellRefused 4 (SamePlace 1 2)) ≡ codes "magsym: line 4: atoms 1 and 2 stand at one place\n"
unfolding digits
line_of_same_place = refl

line_of_no_end : line_of (CellRefused 4 NoEnd) ≡ codes "magsym: line 4: end is missing\n"
unfolding digits
line_of_no_end = refl

line_of_after_end : line_of (CellRefused 5 AfterEnd) ≡ codes "magsym: line 5: text after end\n"
unfolding digits
line_of_after_end = refl

line_of_empty_symbol : line_of (SymbolRefused (Symbol Empty)) ≡ codes "magsym: symbol: symbol is empty\n"
line_of_empty_symbol = refl

line_of_bad_token : line_of (SymbolRefused (Symbol (BadToken 12))) ≡ codes "magsym: symbol: token 12 has no known form\n"
unfolding digits
line_of_bad_token = refl

line_of_many_matrices : line_of (SymbolRefused TooManyMatrices) ≡ codes "magsym: symbol: more than 48 matrices\n"
line_of_many_matrices = refl

line_of_no_match : line_of (NoMatch identity) ≡ codes ""
line_of_no_match = refl

line_of_bad_row : line_of (TableRefused 12 BadRow) ≡ codes "magsym: row 12: row has no known form\n"
unfolding digits
line_of_bad_row = refl

line_of_many_rows : line_of (TableRefused 4001 TooManyRows) ≡ codes "magsym: row 4001: more than 4000 rows\n"
unfolding digits
line_of_many_rows = refl

line_of_long_table : line_of TableTooLong ≡ codes "magsym: table is longer than 1048576 bytes\n"
line_of_long_table = refl

line_of_read_fault : line_of ReadFault ≡ codes "magsym: reading failed\n"
line_of_read_fault = refl

line_of_write_fault : line_of (WriteFault 10 NoBase) ≡ codes "magsym: writing failed\n"
line_of_write_fault = refl

line_of_memory : line_of Memory ≡ codes "magsym: out of memory\n"
line_of_memory = refl
