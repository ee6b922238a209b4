use Rattle.std.proofs.Common.{◌≡◌, ◌≤◌, ◌+◌, ◌-◌, length, false}
use Rattle.std.specs.Io.KnownBytes.{Consumes}
use Rattle.io_edge.specs.Reading.{StopsAtEnd}
use Rattle.io_edge.proofs.shelf.read_picked.Given as goal

-- what was taken so far is held, within the limit
abbrev pub invariant-loop-count : goal.invariant-loop-count
invariant-loop-count g l = record {
  taken : Consumes (g.S.Shelf.state l.fn.shelf).picked.left (g.S.Shelf.state l.shelf).picked.left l.bytes;
  short : length l.bytes ≤ l.limit;
  later : (g.S.Shelf.state l.fn.shelf).picked.faults ≤ (g.S.Shelf.state l.shelf).picked.faults;
  unseen : (g.S.Shelf.state l.fn.shelf).picked.end_is_seen ≡ false → (g.S.Shelf.state l.shelf).picked.end_is_seen ≡ false;
  files : (g.S.Shelf.state l.shelf).files ≡ (g.S.Shelf.state l.fn.shelf).files;
  picked : (g.S.Shelf.state l.shelf).is_picked ≡ (g.S.Shelf.state l.fn.shelf).is_picked;
  stops : StopsAtEnd (g.S.Shelf.state l.fn.shelf).picked (g.S.Shelf.state l.shelf).picked;
}

abbrev pub decreases-loop-count : goal.decreases-loop-count
decreases-loop-count g l = l.limit + 1 - length l.bytes
