use Rattle.std.proofs.Common.{ap, arith, length-append, ◌++◌, take, length}
use Rattle.std.proofs.lemmas.List.{length-take}
use Rattle.io_edge.proofs.Pieces.{then_taken}
use Rattle.io_edge.proofs.shelf.read_picked.Goals as goal

pub returns-in_default-append-clause-taken : goal.returns-in_default-append-clause-taken
returns-in_default-append-clause-taken g c =
    let piece = take c.in-Ok.count c.read.new.buf in
    let bound = c.in-Ok.ensures.within in
    (c.loop-count.bytes ++ piece, then_taken _ _ _ c.loop-count.bytes piece c.loop-count.invariant.taken c.in-Ok.ensures.taken.0, omega (arith, ap length c.as_slice.ensures, bound, length-append c.loop-count.bytes piece, c.read.auto.buf, length-take c.min-most.result c.loop-count.buf))

pub returns-in_default-append-clause-at_most : goal.returns-in_default-append-clause-at_most
returns-in_default-append-clause-at_most g c =
    let t = returns-in_default-append-clause-taken g c in
    record { taken = t.0; consumed = t.1; few = t.2 }
