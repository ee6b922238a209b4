use Rattle.std.proofs.Common.{◌≡◌, map, take, pos, vec_items}
use Rattle.matrix3.specs.Matrices.{vector_map}
use Rattle.op_group.specs.Views.{operation_of}
use Rattle.hall_symbol.specs.Symbols.{shifted}
use Rattle.hall_symbol.proofs.operations.shift_all.Given as goal

abbrev pub invariant-loop-op : goal.invariant-loop-op
invariant-loop-op l = map operation_of (vec_items l.gens) ≡ map (shifted (vector_map pos l.t)) (map operation_of (take l.op-index l.ops))
