use Rattle.std.proofs.Common.{◌+◌, ◌<◌, length, sym, subst, arith}
use Rattle.lists.proofs.Increasing.{increasing_distinct}
use Rattle.crystal_spec.specs.Operations.{compare_of}
use Rattle.crystal_spec.proofs.Ordered.{compare_total}
use Rattle.mag_type.proofs.FamilyOrders.{AreCounted, counted_more, counted_same, counted_all}
use Rattle.mag_type.proofs.classification.family_count.Goals.{then-is_first_of_pair, else-is_first_of_pair}
use Rattle.mag_type.proofs.classification.family_count.Goals as goal

pub loop-op-preserved : goal.loop-op-preserved
loop-op-preserved c =
    let os = c.args.list.now.operations in
    let ops = c.ops-op-items.result.now in
    let i = c.loop-op.op-index in
    let distinct = increasing_distinct compare_of compare_total os c.invariant.ensures.ordered in
    let within : i < length ops = omega arith in
    record {
      fits = elim c.if-is_first_of_pair.branch [
        | then-is_first_of_pair w ↦ omega arith
        | else-is_first_of_pair w ↦ omega arith
      ];
      counted = elim c.if-is_first_of_pair.branch [
        | then-is_first_of_pair w ↦ subst (AreCounted os ops (i + 1)) (sym w.count-is)
            (counted_more os ops i c.loop-op.count c.op-item.result c.ops-op-items.ensures distinct within c.op-item.is c.loop-op.invariant.counted (c.is_first_of_pair.ensures.0 w.if-is_first_of_pair.true))
        | else-is_first_of_pair w ↦ subst (AreCounted os ops (i + 1)) (sym w.count-is)
            (counted_same os ops i c.loop-op.count c.op-item.result c.ops-op-items.ensures distinct within c.op-item.is c.loop-op.invariant.counted (λ first. let yes = c.is_first_of_pair.ensures.1 first in absurd (cc (yes, w.if-is_first_of_pair.false))))
      ];
    }

pub returns : goal.returns
returns c = counted_all c.args.list.now.operations c.ops-op-items.result.now c.loop-op.op-index c.loop-op.count (omega arith) c.loop-op.invariant.counted
