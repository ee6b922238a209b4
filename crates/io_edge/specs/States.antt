-- What a source, a sink or a store of named files tells of itself at one time.
--   SourceState   of a source: the bytes that are left, its faults, and the end of input
--   SinkState     of a sink: the bytes that it holds, and its faults
--   Files         a map from names to the bytes of files
--   ShelfState    of a store of named files: its files, and the picked one as a source
-- Bytes and files are told by some sources, sinks and stores alone.
-- Our own.
use Rattle.std.specs.Prelude.{ℕ, Bool, List}
use Rattle.std.specs.declared.option.Option.{Option}

-- The bytes that are left, where the source tells them; how often it has failed, which never falls; whether its last read saw
-- the end of input; and whether a read ever came right behind one that saw it.
pub record SourceState : Type 0 where
  pub left : Option (List ℕ)
  pub faults : ℕ
  pub end_is_seen : Bool
  pub read_past_end : Bool

-- the bytes that the sink holds, where it tells them; how often it has failed, which never falls; and whether its last write failed
pub record SinkState : Type 0 where
  pub held : Option (List ℕ)
  pub faults : ℕ
  pub last_failed : Bool

-- the bytes of the file of each name that has one
abbrev pub Files : Type 0
Files = List ℕ → Option (List ℕ)

-- The files, where the store tells them; the picked file as a source, whose count of faults is that of the store; and whether
-- a file is picked.
pub record ShelfState : Type 0 where
  pub files : Option Files
  pub picked : SourceState
  pub is_picked : Bool
