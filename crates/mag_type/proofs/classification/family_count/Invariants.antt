use Rattle.std.specs.Prelude.{◌≤◌}
use Rattle.mag_type.proofs.FamilyOrders.{AreCounted}
use Rattle.mag_type.proofs.classification.family_count.Given as goal

-- with the first operations that are still to come, those counted are all of the list
abbrev pub invariant-loop-op : goal.invariant-loop-op
invariant-loop-op l = record {
  fits : l.count ≤ l.op-index;
  counted : AreCounted l.list.operations l.op-items l.op-index l.count;
}
