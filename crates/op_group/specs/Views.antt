-- What an operation of the program stands for.
--   operation_of o        the operation, with its translation part as a column of integers
use Rattle.crystal_spec.specs.Operations.{Operation}
use Rattle.positions.specs.Positions.{triple_of}
use Rattle.op_group.specs.declared.operation.Op.{Op}

-- the matrix, the translation part and the time sign
abbrev pub operation_of : Op → Operation
operation_of o = record { matrix = o.w; translation = triple_of o.shift; sign = o.sign }
