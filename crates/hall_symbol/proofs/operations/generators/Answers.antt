use Rattle.std.proofs.Common.{◌∙◌, sym, ap, subst, map}
use Rattle.op_group.specs.Views.{operation_of}
use Rattle.hall_symbol.specs.Views.{AreSmall}
use Rattle.hall_symbol.proofs.RotationMatrices.{named_small}
use Rattle.hall_symbol.proofs.operations.generators.Goals as goal

pub shift_all-requires-clause-small : goal.shift_all-requires-clause-small
shift_all-requires-clause-small c = subst AreSmall (sym (ap (map operation_of) c.deref.ensures.value ∙ c.in_ok-ops.ensures)) (named_small c.args.symbol.now)
