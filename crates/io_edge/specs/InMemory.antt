-- What the objects in memory are, and which of their calls fail.
--   CallPlan          the calls made so far, and the numbers of those that fail
--   new_plan numbers  no call made so far, and these are to fail
--   FailsNext plan    the next call is one of those that fail
--   after_call plan   one call more was made
--   MemorySource      a source over memory
--   MemorySink        a sink over memory
--   MemoryFile        a file in memory: its name and its bytes
--   later bytes earlier  the bytes of a later file, where there is one
--   bytes_of files name   the bytes of the last file of this name, if there is one
--   bytes_at i files  the bytes of the file number i, from 0
--   left_of picked at files   the bytes from this place on of the file of this number, none where no file is picked
--   IsPlace picked at files   a file of this number is there, with as many bytes
--   MemoryShelf       a store of files in memory
--   memory_state shelf    what it tells of itself
--   room_left sink    how many bytes more it can hold
--   IsFull sink       it can hold no more
-- Our own.
use Rattle.std.specs.Prelude.{◌≡◌, ℕ, ◌+◌, ◌-◌, ◌^◌, min, Bool, List, [], ◌∷◌, length, drop, get_or, ◌<◌, ◌≤◌, Contains, nat_eq, if◌then◌else◌}
use Rattle.std.specs.Cmp.Lexicographic.{pointwise}
use Rattle.std.specs.declared.option.Option.{Option}
use Rattle.std.specs.declared.option.Option.TheVariants.{Some, None}
use Rattle.io_edge.specs.States.{Files, ShelfState}
use Rattle.io_edge.specs.declared.mem_sink.TheConstants.{ROOM}

-- the numbers, from 1, of the calls that fail, and how many calls were made
pub record CallPlan : Type 0 where
  pub fails : List ℕ
  pub made : ℕ

-- no call made so far
abbrev pub new_plan : List ℕ → CallPlan
new_plan numbers = record { fails = numbers; made = 0 }

-- the next call's number is in the list
abbrev pub FailsNext : CallPlan → Type 0
FailsNext plan = Contains plan.fails (plan.made + 1)

-- one call more; the number of calls stays at the last number of 64 bits
abbrev pub after_call : CallPlan → CallPlan
after_call plan = record { fails = plan.fails; made = min (plan.made + 1) (2 ^ 64 - 1) }

-- The bytes that are left, the most that one call gives, the calls, how many of them failed, whether the last one saw
-- the end, and whether one came right behind a call that did.
pub record MemorySource : Type 0 where
  pub left : List ℕ
  pub most : ℕ
  pub calls : CallPlan
  pub faults : ℕ
  pub end_is_seen : Bool
  pub read_past_end : Bool

-- the bytes that are held, the most that one call takes, the calls, how many of them failed, and whether the last one did
pub record MemorySink : Type 0 where
  pub held : List ℕ
  pub most : ℕ
  pub calls : CallPlan
  pub faults : ℕ
  pub last_failed : Bool

-- what is left of the 4 MiB that a sink over memory has when it is made
abbrev pub room_left : MemorySink → ℕ
room_left sink = ROOM - length sink.held

-- no room is left
abbrev pub IsFull : MemorySink → Type 0
IsFull sink = room_left sink ≡ 0

-- a file: its name and its bytes
pub record MemoryFile : Type 0 where
  pub name : List ℕ
  pub bytes : List ℕ

-- the bytes of a later file, where there is one
abbrev pub later : Option (List ℕ) → Option (List ℕ) → Option (List ℕ)
later (Some bytes) earlier = Some bytes
later None earlier = earlier

-- the bytes of the last file of this name, which takes the place of those before it
abbrev pub bytes_of : List MemoryFile → Files
bytes_of [] name = None
bytes_of (file ∷ files) name = later (bytes_of files name) (if pointwise nat_eq file.name name then Some file.bytes else None)

-- the bytes of the file number i, from 0
abbrev pub bytes_at : List MemoryFile → ℕ → List ℕ
bytes_at files i = (get_or files i (record { name = []; bytes = [] })).bytes

-- the bytes from this place on of the file of this number
abbrev pub left_of : Option ℕ → ℕ → List MemoryFile → List ℕ
left_of None at files = []
left_of (Some i) at files = drop at (bytes_at files i)

-- a file of this number is there, and has no fewer bytes than lie before this place, which is the first where none is picked
abbrev pub IsPlace : Option ℕ → ℕ → List MemoryFile → Type 0
IsPlace None at files = at ≡ 0
IsPlace (Some i) at files = (i < length files) × (at ≤ length (bytes_at files i))

-- The files, the bytes that are left of the picked one, whether one is picked, the most that one call gives, the calls of
-- both kinds, how many of them failed as they were to, whether the last one saw the end, and whether one came right behind
-- a call that did.
pub record MemoryShelf : Type 0 where
  pub files : List MemoryFile
  pub left : List ℕ
  pub is_picked : Bool
  pub most : ℕ
  pub calls : CallPlan
  pub faults : ℕ
  pub end_is_seen : Bool
  pub read_past_end : Bool

-- it tells its files and what is left of the picked one, which is nothing where none is picked
abbrev pub memory_state : MemoryShelf → ShelfState
memory_state shelf = record {
  files = Some (bytes_of shelf.files);
  picked = record {
    left = Some shelf.left;
    faults = shelf.faults;
    end_is_seen = shelf.end_is_seen;
    read_past_end = shelf.read_past_end;
  };
  is_picked = shelf.is_picked;
}
