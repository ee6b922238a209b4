use Rattle.std.proofs.Common.{sym, arith, ◌<◌, length}
use Rattle.io_edge.proofs.Files.{taken_named, taken_other, found_still}
use Rattle.io_edge.proofs.file.last_of.Goals.{then-is_named, else-is_named}
use Rattle.io_edge.proofs.file.last_of.Goals as goal

pub loop-i-preserved : goal.loop-i-preserved
loop-i-preserved c =
    let there : c.loop-i.i < length c.args.files.now = omega arith in
    elim c.if-is_named.branch [
      | then-is_named w ↦
          let named = taken_named c.args.files.now c.args.name.now c.loop-i.i c.index-files-i.result there c.index-files-i.is (sym w.if-is_named.ensures) in
          rw w.found-is (omega arith, named)
      | else-is_named w ↦
          rw w.found-is (found_still c.loop-i.found c.loop-i.i _ _ c.args.files.now (taken_other c.args.files.now c.args.name.now c.loop-i.i c.index-files-i.result there c.index-files-i.is (sym w.if-is_named.ensures)) c.loop-i.invariant)
    ]
