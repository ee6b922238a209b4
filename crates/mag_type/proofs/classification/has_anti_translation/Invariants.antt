use Rattle.mag_type.proofs.TypesFound.{IsToCome}
use Rattle.mag_type.proofs.classification.has_anti_translation.Given as goal

-- where the list has one, it is still to come
abbrev pub invariant-loop-op : goal.invariant-loop-op
invariant-loop-op l = IsToCome l.ops l.op-index
