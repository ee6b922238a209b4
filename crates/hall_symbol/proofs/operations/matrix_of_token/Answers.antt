use Rattle.std.proofs.Common.{sym, subst}
use Rattle.ring.specs.Size.{AtMost}
use Rattle.matrix3.specs.Matrices.{EachEntry}
use Rattle.hall_symbol.proofs.RotationMatrices.{rotation_small}
use Rattle.hall_symbol.proofs.operations.matrix_of_token.Goals as goal

pub negated-requires : goal.negated-requires
negated-requires c = record { small = subst (EachEntry (AtMost 1)) (sym c.matrix_of-w.ensures) (rotation_small c.args.token.now.rotation) }
