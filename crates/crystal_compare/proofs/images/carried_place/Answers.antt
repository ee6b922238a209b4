use Rattle.std.proofs.Common.{◌^◌, ap, subst, sym, ◌∙◌}
use Rattle.crystal_spec.specs.Matrices.{image}
use Rattle.positions.specs.Positions.{triple_of}
use Rattle.matrix3.specs.Bounds.{CoordinatesAtMost}
use Rattle.matrix3.proofs.FitsBySize.{image_fits}
use Rattle.crystal_compare.proofs.Imaging.{place_found, place_image}
use Rattle.crystal_compare.proofs.images.carried_place.Goals as goal

pub apply-image-requires-clause-fits : goal.apply-image-requires-clause-fits
apply-image-requires-clause-fits c = image_fits _ _ c.requires.map c.column.ensures.size tt

pub carried_coordinate-requires-clause-x : goal.carried_coordinate-requires-clause-x
carried_coordinate-requires-clause-x c = (subst (CoordinatesAtMost (10 ^ 14)) (sym c.apply-image.ensures.value) (place_image c.args.w.now c.column.result c.requires.map c.column.ensures.size)).x

pub carried_coordinate-requires-2-clause-x : goal.carried_coordinate-requires-2-clause-x
carried_coordinate-requires-2-clause-x c = (subst (CoordinatesAtMost (10 ^ 14)) (sym c.apply-image.ensures.value) (place_image c.args.w.now c.column.result c.requires.map c.column.ensures.size)).y

pub carried_coordinate-requires-3-clause-x : goal.carried_coordinate-requires-3-clause-x
carried_coordinate-requires-3-clause-x c = (subst (CoordinatesAtMost (10 ^ 14)) (sym c.apply-image.ensures.value) (place_image c.args.w.now c.column.result c.requires.map c.column.ensures.size)).z

pub returns-clause-found : goal.returns-clause-found
returns-clause-found c = place_found c.args.n c.args.m c.args.w.now c.args.t.now (triple_of c.args.place) c.apply-image.result c.in_ok-x.x c.in_ok-y.y c.in_ok-z.z (c.apply-image.ensures.value ∙ ap (image c.args.w.now) c.column.ensures.value) c.in_ok-x.ensures.found c.in_ok-y.ensures.found c.in_ok-z.ensures.found
