-- The kinds of ends of a run.
--   StatusKind          what has become of the report
--   kind_of status      the kind of a status
--   IsDone kind         the whole report is written
--   IsUsage kind        the words are outside the rule
--   IsRefusal kind      no report was begun
--   IsAnswered kind     the whole report is written, there is none for what was asked, or memory was wanting
-- Our own.
use Rattle.run_status.specs.declared.status.Status.{Status}
use Rattle.run_status.specs.declared.status.Status.TheVariants.{Done, NoMatch, Different, NotAllowed, Usage, CellTooLong, CellRefused, NoSuchAtom, OtherTooLong, OtherRefused, SymbolRefused, TableRefused, TableTooLong, ReadFault, WriteFault, Memory, TooWide}

-- the whole report is written; the writing of one failed; the words are outside the rule; what was read is refused, or could
-- not be read; the crystal is read, and has no report for what was asked: no such atom, a moment that is not allowed, a cell
-- too wide; memory was wanting
pub data StatusKind : Type 0 where
  whole : StatusKind
  cut : StatusKind
  usage : StatusKind
  refused : StatusKind
  unanswerable : StatusKind
  wanting : StatusKind

abbrev pub kind_of : Status → StatusKind
kind_of (Done kept) = whole
kind_of (WriteFault written kept) = cut
kind_of (NoMatch q) = whole
kind_of (Different q q') = whole
kind_of (NotAllowed q) = unanswerable
kind_of (TooWide q) = unanswerable
kind_of NoSuchAtom = unanswerable
kind_of (Usage fault) = usage
kind_of CellTooLong = refused
kind_of (CellRefused line fault) = refused
kind_of OtherTooLong = refused
kind_of (OtherRefused line fault) = refused
kind_of (SymbolRefused fault) = refused
kind_of (TableRefused row fault) = refused
kind_of TableTooLong = refused
kind_of ReadFault = refused
kind_of Memory = wanting

-- the whole report is written
abbrev pub IsDone : StatusKind → Type 0
IsDone whole = Unit {0}
IsDone cut = ⊥
IsDone usage = ⊥
IsDone refused = ⊥
IsDone unanswerable = ⊥
IsDone wanting = ⊥

-- the words are outside the rule
abbrev pub IsUsage : StatusKind → Type 0
IsUsage whole = ⊥
IsUsage cut = ⊥
IsUsage usage = Unit {0}
IsUsage refused = ⊥
IsUsage unanswerable = ⊥
IsUsage wanting = ⊥

-- no report was begun
abbrev pub IsRefusal : StatusKind → Type 0
IsRefusal whole = ⊥
IsRefusal cut = ⊥
IsRefusal usage = Unit {0}
IsRefusal refused = Unit {0}
IsRefusal unanswerable = Unit {0}
IsRefusal wanting = Unit {0}

-- the whole report is written, there is none for what was asked, or memory was wanting
abbrev pub IsAnswered : StatusKind → Type 0
IsAnswered whole = Unit {0}
IsAnswered cut = ⊥
IsAnswered usage = ⊥
IsAnswered refused = ⊥
IsAnswered unanswerable = Unit {0}
IsAnswered wanting = Unit {0}
