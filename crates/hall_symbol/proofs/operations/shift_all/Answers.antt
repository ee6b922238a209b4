use Rattle.lists.proofs.Members.{mapped_read}
use Rattle.op_group.specs.Views.{operation_of}
use Rattle.hall_symbol.proofs.operations.shift_all.Goals as goal

pub shifted-requires-clause-small : goal.shifted-requires-clause-small
shifted-requires-clause-small c = c.requires.small.each (operation_of c.op-item.result) (mapped_read operation_of c.args.ops.now c.loop-op.op-index c.op-item.result c.loop-op-test.true c.op-item.is)
