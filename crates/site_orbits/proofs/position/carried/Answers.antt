use Rattle.std.proofs.Common.{ap, subst, sym, ◌∙◌, lit≤, ◌*◌, ◌+◌, ◌^◌}
use Rattle.crystal_spec.specs.Matrices.{image, sum_of}
use Rattle.matrix3.specs.Bounds.{CoordinatesAtMost}
use Rattle.matrix3.proofs.FitsBySize.{image_fits, image_size, sum_size, coordinates_grown}
use Rattle.positions.specs.Positions.{modulo}
use Rattle.site_orbits.proofs.position.carried.Goals as goal

pub apply-image-requires-clause-fits : goal.apply-image-requires-clause-fits
apply-image-requires-clause-fits c = image_fits _ _ c.requires.small c.column.ensures.size tt

pub plus-requires : goal.plus-requires
plus-requires c = record {
  fits = coordinates_grown (lit≤ tt) (sum_size
      (subst (CoordinatesAtMost (1 * 2 ^ 32 + 1 * 2 ^ 32 + 1 * 2 ^ 32)) (sym c.apply-image.ensures.value) (image_size _ _ c.requires.small c.column.ensures.size)) c.column-2.ensures.size);
}

pub returns : goal.returns
returns c =
    let image_is = c.apply-image.ensures.value ∙ ap (image c.args.op.now.w) c.column.ensures.value in
    c.modulo.ensures ∙ ap (modulo c.args.n) (c.plus.ensures ∙ (λ i. sum_of (image_is i) (c.column-2.ensures.value i)))
