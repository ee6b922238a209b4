use Rattle.std.proofs.Common.{map}
use Rattle.op_group.specs.Lists.{AllWithinCell}
use Rattle.op_group.specs.Views.{operation_of}
use Rattle.group_tests.proofs.operations.put_in_order.Given as goal

-- those that were kept are within the cell
abbrev pub invariant-loop-item : goal.invariant-loop-item
invariant-loop-item l = AllWithinCell 4 (map operation_of l.kept.items)
