use Rattle.std.proofs.Common.{◌≡◌, ◌++◌, drop, map}
use Rattle.op_group.specs.Views.{operation_of}
use Rattle.operation_text.specs.OperationText.{lines_text}
use Rattle.operation_text.proofs.operations.ops_report.Given as goal

-- the lines so far, and those of the operations that are left
abbrev pub invariant-loop-op : goal.invariant-loop-op
invariant-loop-op l = l.out ++ lines_text l.n (map operation_of (drop l.op-index l.op-items)) ≡ lines_text l.n (map operation_of l.op-items)
