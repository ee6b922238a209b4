use Rattle.std.proofs.Common.{sym, subst, ap, ◌^◌}
use Rattle.ring.specs.Ring.{int_ops}
use Rattle.ring.specs.Size.{AtMost}
use Rattle.matrix3.specs.Fits.{ProductFits}
use Rattle.matrix3.proofs.FitsBySize.{product_fits}
use Rattle.crystal_spec.specs.Matrices.{Matrix, Triple, identity}
use Rattle.positions.specs.Positions.{triple_of}
use Rattle.hall_text.specs.Splits.{pure}
use Rattle.hall_symbol.proofs.RotationMatrices.{identity_small}
use Rattle.hall_text.proofs.PureLemmas.{carried_is}
use Rattle.hall_text.proofs.pures.carried.Goals as goal

pub compose-turned-requires-clause-fits : goal.compose-turned-requires-clause-fits
compose-turned-requires-clause-fits c =
    subst (λ (w : Matrix). ProductFits int_ops (AtMost (10 ^ 36)) c.args.x.now.w w) (sym c.identity.ensures) (product_fits c.args.x.now.w identity c.requires.small identity_small tt)

pub returns : goal.returns
returns c = ap (λ (t : Triple). pure t c.args.o.now.sign) (carried_is c.args.x.now.w (triple_of c.args.o.now.shift) (triple_of c.compose-turned.result.shift) c.compose-turned.ensures.translation)
