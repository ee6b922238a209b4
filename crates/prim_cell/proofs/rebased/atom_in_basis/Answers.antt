use Rattle.std.proofs.Common.{ap, sym, subst, ◌∙◌, lit≤, ◌*◌, ◌+◌, ◌^◌}
use Rattle.crystal_spec.specs.Matrices.{Matrix, image}
use Rattle.crystal_spec.specs.Moments.{turn_matrix}
use Rattle.matrix3.specs.Bounds.{EntriesAtMost, CoordinatesAtMost}
use Rattle.crystal.proofs.Ranges.{turn_entries}
use Rattle.matrix3.proofs.FitsBySize.{image_fits, image_size, coordinates_grown}
use Rattle.prim_cell.proofs.rebased.atom_in_basis.Goals as goal

pub apply-requires-clause-fits : goal.apply-requires-clause-fits
apply-requires-clause-fits c =
    image_fits _ _ (subst (EntriesAtMost 50000000) (sym (c.turn_matrix.ensures ∙ ap (turn_matrix c.args.kind) c.matrix.ensures)) (turn_entries c.args.kind 50000000 c.args.r.now.matrix (lit≤ tt) c.requires.basis)) c.requires.moment tt

pub returns-clause-value : goal.returns-clause-value
returns-clause-value c = λ i. record {
  species = c.args.atom.now.species;
  position = c.image.ensures i;
  moment = (c.apply.ensures.value ∙ ap (λ (a : Matrix). image a c.args.atom.now.moment) (c.turn_matrix.ensures ∙ ap (turn_matrix c.args.kind) c.matrix.ensures)) i;
}

pub returns-clause-moment : goal.returns-clause-moment
returns-clause-moment c =
    coordinates_grown {v = c.apply.result} (lit≤ tt) (subst (CoordinatesAtMost (50000000 * 10 ^ 9 + 50000000 * 10 ^ 9 + 50000000 * 10 ^ 9)) (sym c.apply.ensures.value)
    (image_size _ _ (subst (EntriesAtMost 50000000) (sym (c.turn_matrix.ensures ∙ ap (turn_matrix c.args.kind) c.matrix.ensures)) (turn_entries c.args.kind 50000000 c.args.r.now.matrix (lit≤ tt) c.requires.basis)) c.requires.moment))
