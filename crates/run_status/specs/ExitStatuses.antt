-- The exit statuses of the program.
--   number_of status   the exit status of the program
-- Our own.
use Rattle.std.specs.Prelude.{ℕ}
use Rattle.run_status.specs.declared.status.Status.{Status}
use Rattle.run_status.specs.declared.status.Status.TheVariants.{Done, NoMatch, Different, NotAllowed, Usage, CellTooLong, CellRefused, NoSuchAtom, OtherTooLong, OtherRefused, SymbolRefused, TableRefused, TableTooLong, ReadFault, WriteFault, Memory, TooWide}

abbrev pub number_of : Status → ℕ
number_of (Done kept) = 0
number_of (NoMatch q) = 1
number_of (Different q q') = 1
number_of (NotAllowed q) = 1
number_of (Usage fault) = 2
number_of CellTooLong = 3
number_of (CellRefused line fault) = 3
number_of NoSuchAtom = 3
number_of OtherTooLong = 3
number_of (OtherRefused line fault) = 3
number_of (SymbolRefused fault) = 4
number_of (TableRefused row fault) = 4
number_of TableTooLong = 4
number_of ReadFault = 5
number_of (WriteFault written kept) = 6
number_of Memory = 7
number_of (TooWide q) = 8
