use Rattle.std.proofs.Common.{◌≡◌, ◌++◌, map, take, vec_items}
use Rattle.op_group.specs.Views.{operation_of}
use Rattle.hall_symbol.specs.Symbols.{operation_of_token}
use Rattle.hall_symbol.proofs.operations.add_tokens.Given as goal

abbrev pub invariant-loop-token : goal.invariant-loop-token
invariant-loop-token l = map operation_of (vec_items l.ops) ≡ map operation_of (vec_items l.initial.ops) ++ map operation_of_token (take l.token-index l.tokens)
