use Rattle.std.proofs.Common.{◌≡◌, refl, arith}
use Rattle.op_group.specs.Views.{operation_of}
use Rattle.positions.specs.Positions.{triple_of}
use Rattle.mag_type.specs.MagneticTypes.{anti_translation}
use Rattle.mag_type.proofs.TypesFound.{to_come_later, none_to_come, has_item}
use Rattle.mag_type.proofs.classification.has_anti_translation.Goals as goal

pub loop-op-preserved : goal.loop-op-preserved
loop-op-preserved c =
    let other = λ (e : operation_of c.op-item.result ≡ anti_translation (triple_of c.op-item.result.shift)). let yes = c.is_anti_translation.ensures.1 e in absurd (cc (yes, c.if-is_anti_translation.false)) in
    to_come_later c.args.ops.now c.loop-op.op-index c.op-item.result (omega arith) c.op-item.is other c.loop-op.invariant

pub returns-then-is_anti_translation : goal.returns-then-is_anti_translation
returns-then-is_anti_translation c =
    ((λ t. has_item c.args.ops.now c.loop-op.op-index c.op-item.result (omega arith) c.op-item.is (c.is_anti_translation.ensures.0 c.if-is_anti_translation.true)), (λ h. refl))

pub returns : goal.returns
returns c =
    ((λ t. absurd (cc t)), (λ h. absurd (none_to_come c.args.ops.now c.loop-op.op-index (omega arith) c.loop-op.invariant h)))
