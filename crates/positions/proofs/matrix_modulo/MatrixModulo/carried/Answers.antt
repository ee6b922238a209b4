use Rattle.std.proofs.Common.{◌≡◌, subst, [], ◌∷◌}
use Rattle.std.specs.Prelude.{slice_index}
use Rattle.crystal_spec.specs.Crystals.{position_after}
use Rattle.crystal_spec.proofs.Entrywise.{triple_same}
use Rattle.positions.specs.Positions.{triple_of, modulo}
use Rattle.positions.specs.Rows.{ModularMatrix}
use Rattle.positions.proofs.Rows.{row_below, coordinate_is}
use Rattle.positions.proofs.matrix_modulo.MatrixModulo.carried.Goals as goal

pub coordinate-requires-clause-row : goal.coordinate-requires-clause-row
coordinate-requires-clause-row c = row_below _ _ _ _ _ c.self.invariant.at_least c.self.invariant.at_most c.self.invariant.first

pub coordinate-requires-2-clause-row : goal.coordinate-requires-2-clause-row
coordinate-requires-2-clause-row c = row_below _ _ _ _ _ c.self.invariant.at_least c.self.invariant.at_most c.self.invariant.second

pub coordinate-requires-3-clause-row : goal.coordinate-requires-3-clause-row
coordinate-requires-3-clause-row c = row_below _ _ _ _ _ c.self.invariant.at_least c.self.invariant.at_most c.self.invariant.third

pub returns : goal.returns
unfolding modulo
returns c =
    let one = c.self.invariant.at_least in
    subst (λ (a : ModularMatrix). triple_of (c.coordinate.result ∷ c.coordinate-2.result ∷ c.coordinate-3.result ∷ []) ≡ modulo a.modulus (position_after a.matrix (triple_of c.args.shift) (triple_of c.args.place))) c.self.view_is
    (triple_same
    (coordinate_is _ _ _ _ _ c.args.place (slice_index c.args.shift 0) _ one c.self.invariant.first c.coordinate.ensures)
    (coordinate_is _ _ _ _ _ c.args.place (slice_index c.args.shift 1) _ one c.self.invariant.second c.coordinate-2.ensures)
    (coordinate_is _ _ _ _ _ c.args.place (slice_index c.args.shift 2) _ one c.self.invariant.third c.coordinate-3.ensures))
