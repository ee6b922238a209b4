use Rattle.std.proofs.Common.{◌≡◌, ◌++◌, drop, map}
use Rattle.op_group.specs.Views.{operation_of}
use Rattle.serde_json.specs.View.{view}
use Rattle.report_text.specs.DatasetText.{operation_data}
use Rattle.report_text.proofs.dataset.operation_values.Given as goal

-- the values so far, and those of the operations that are left
abbrev pub invariant-loop-op : goal.invariant-loop-op
invariant-loop-op l = map view l.values.items ++ map (operation_data l.n) (map operation_of (drop l.op-index l.op-items)) ≡ map (operation_data l.n) (map operation_of l.op-items)
