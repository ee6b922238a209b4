use Rattle.std.proofs.Common.{◌≡◌, subst, [], ◌∷◌}
use Rattle.std.specs.Prelude.{slice_index}
use Rattle.crystal_spec.specs.Matrices.{difference, image}
use Rattle.crystal_spec.proofs.Entrywise.{triple_same}
use Rattle.positions.specs.Positions.{triple_of, modulo}
use Rattle.positions.specs.Rows.{ModularMatrix}
use Rattle.positions.proofs.Rows.{row_below, onto_is}
use Rattle.positions.proofs.matrix_modulo.MatrixModulo.translation_onto.Goals as goal

pub coordinate_onto-requires-clause-row : goal.coordinate_onto-requires-clause-row
coordinate_onto-requires-clause-row c = row_below _ _ _ _ _ c.self.invariant.at_least c.self.invariant.at_most c.self.invariant.first

pub coordinate_onto-requires-2-clause-row : goal.coordinate_onto-requires-2-clause-row
coordinate_onto-requires-2-clause-row c = row_below _ _ _ _ _ c.self.invariant.at_least c.self.invariant.at_most c.self.invariant.second

pub coordinate_onto-requires-3-clause-row : goal.coordinate_onto-requires-3-clause-row
coordinate_onto-requires-3-clause-row c = row_below _ _ _ _ _ c.self.invariant.at_least c.self.invariant.at_most c.self.invariant.third

pub returns : goal.returns
unfolding modulo
returns c =
    let one = c.self.invariant.at_least in
    subst (λ (a : ModularMatrix). triple_of (c.coordinate_onto.result ∷ c.coordinate_onto-2.result ∷ c.coordinate_onto-3.result ∷ []) ≡ modulo a.modulus (difference (triple_of c.args.onto) (image a.matrix (triple_of c.args.from)))) c.self.view_is
    (triple_same
    (onto_is _ _ _ _ _ c.args.from (slice_index c.args.onto 0) _ one c.self.invariant.first c.coordinate_onto.ensures)
    (onto_is _ _ _ _ _ c.args.from (slice_index c.args.onto 1) _ one c.self.invariant.second c.coordinate_onto-2.ensures)
    (onto_is _ _ _ _ _ c.args.from (slice_index c.args.onto 2) _ one c.self.invariant.third c.coordinate_onto-3.ensures))
