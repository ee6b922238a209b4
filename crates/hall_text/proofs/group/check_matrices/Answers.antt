use Rattle.std.proofs.Common.{◌∙◌, sym, ap, subst, map}
use Rattle.op_group.specs.Views.{operation_of}
use Rattle.hall_text.specs.Products.{TooMany}
use Rattle.hall_text.specs.Splits.{AreRotations}
use Rattle.hall_text.proofs.SymbolGenerators.{generators_are}
use Rattle.hall_text.proofs.Closing.{not_too_many}
use Rattle.hall_text.proofs.group.check_matrices.Goals as goal

pub matrix_operations-requires : goal.matrix_operations-requires
matrix_operations-requires c = record { rotations = subst AreRotations (sym (ap (map operation_of) c.deref.ensures.value ∙ c.in-Ok.ensures)) (generators_are c.args.symbol.now) }

pub returns-in-Ok-matrix_operations-clause-few : goal.returns-in-Ok-matrix_operations-clause-few
returns-in-Ok-matrix_operations-clause-few c = λ t.
    not_too_many (map operation_of c.deref.result.now) (map operation_of c.in-Ok-matrix_operations.field-0.items) c.in-Ok-matrix_operations.ensures.value
    (subst TooMany (sym (ap (map operation_of) c.deref.ensures.value ∙ c.in-Ok.ensures)) t)
