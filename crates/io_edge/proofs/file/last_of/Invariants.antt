use Rattle.std.proofs.Common.{◌≡◌, ◌<◌, take}
use Rattle.std.specs.Prelude.{None, Some, MatchOption}
use Rattle.io_edge.specs.InMemory.{bytes_at, bytes_of}
use Rattle.io_edge.proofs.file.last_of.Given as goal

-- the last of the files that were looked at
abbrev pub invariant-loop-i : goal.invariant-loop-i
invariant-loop-i l = MatchOption l.found
    (bytes_of (take l.i l.files) l.name ≡ None)
    (λ j. (j < l.i) × (bytes_of (take l.i l.files) l.name ≡ Some (bytes_at l.files j)))
