use Rattle.std.proofs.Common.{sym, ◌∙◌}
use Rattle.crystal_spec.proofs.Moments.{turn-vector, turn-scalar}
use Rattle.crystal.proofs.moments.turn_matrix.Goals as goal

pub returns-then-kind : goal.returns-then-kind
returns-then-kind c = sym (turn-vector c.args.kind c.args.r.now c.if-kind.true)

pub returns-else-kind : goal.returns-else-kind
returns-else-kind c = c.identity.ensures ∙ sym (turn-scalar c.args.kind c.args.r.now c.if-kind.false)
