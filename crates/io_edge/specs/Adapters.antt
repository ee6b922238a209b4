-- What the adapters of std's readers and writers are. They tell the bytes that their reader or writer tells.
--   ReaderSource R   a source over a reader of type R
--   WriterSink W     a sink over a writer of type W
--   DirectoryShelf   a store over the files of a directory, which tells none of them
--   directory_state shelf   what it tells of itself
-- Our own.
use Rattle.std.specs.Prelude.{ℕ, Bool}
use Rattle.std.specs.declared.option.Option.TheVariants.{None}
use Rattle.io_edge.specs.States.{ShelfState}

-- the reader, how often reading failed, whether the last read saw the end, and whether one came right behind such a read
pub record ReaderSource (R : Type 0) : Type 0 where
  pub reader : R
  pub faults : ℕ
  pub end_is_seen : Bool
  pub read_past_end : Bool

-- the writer, how often writing failed, and whether the last write did
pub record WriterSink (W : Type 0) : Type 0 where
  pub writer : W
  pub faults : ℕ
  pub last_failed : Bool

-- whether a file is picked, how often picking or reading failed, whether the last read saw the end, and whether one came
-- right behind such a read
pub record DirectoryShelf : Type 0 where
  pub is_picked : Bool
  pub faults : ℕ
  pub end_is_seen : Bool
  pub read_past_end : Bool

-- it tells no files and no bytes
abbrev pub directory_state : DirectoryShelf → ShelfState
directory_state shelf = record {
  files = None;
  picked = record {
    left = None;
    faults = shelf.faults;
    end_is_seen = shelf.end_is_seen;
    read_past_end = shelf.read_past_end;
  };
  is_picked = shelf.is_picked;
}
