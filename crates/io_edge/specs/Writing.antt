-- What writing says.
--   WritesSome   one write took some bytes of the piece
--   WritesAll    all the bytes went out, or how many did, and why not all
-- Our own.
use Rattle.std.specs.Prelude.{◌≡◌, ℕ, ◌<◌, ◌≤◌, true, List, length, take, IfOk, MatchResult}
use Rattle.std.specs.declared.option.Option.{Option}
use Rattle.std.specs.declared.result.Result.{Result}
use Rattle.std.specs.Io.KnownBytes.{Appends}
use Rattle.io_edge.specs.Causes.{Rose}
use Rattle.io_edge.specs.States.{SinkState}
use Rattle.io_edge.specs.declared.sink.OutFault.{OutFault}

-- at least one byte of the piece, and no more than it has
abbrev pub WritesSome : {E : Type 0} → Result ℕ E → List ℕ → Type 0
WritesSome result piece = IfOk result (λ n. (0 < n) × (n ≤ length piece))

-- At Ok all the bytes were appended. At a fault exactly the first `written` bytes were, fewer than all, the last write
-- failed, and the count of faults, which has this highest number, rose.
abbrev pub WritesAll : Option ℕ → SinkState → SinkState → List ℕ → Result (Unit {0}) OutFault → Type 0
WritesAll highest before after bytes result = MatchResult result
    (λ _. Appends before.held after.held bytes)
    (λ fault. (fault.written < length bytes) × Appends before.held after.held (take fault.written bytes) × Rose highest before.faults after.faults × (after.last_failed ≡ true))
