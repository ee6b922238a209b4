use Rattle.std.proofs.Common.{◌≡◌, ◌^◌, ◌*◌, pos, ◌*ℤ◌, ap, subst, sym, ◌∙◌, lit≤}
use Rattle.crystal_spec.specs.Matrices.{image, multiple}
use Rattle.positions.specs.Positions.{triple_of}
use Rattle.matrix3.specs.Bounds.{CoordinatesAtMost}
use Rattle.matrix3.proofs.FitsBySize.{image_fits, coordinates_grown}
use Rattle.crystal_compare.proofs.Imaging.{place_image}
use Rattle.crystal_compare.proofs.Folded.{folded_onto, column_size, difference_size}
use Rattle.crystal_compare.proofs.search.translation_onto.Goals as goal

pub apply-image-requires-clause-fits : goal.apply-image-requires-clause-fits
apply-image-requires-clause-fits c = image_fits _ _ c.requires.map c.column.ensures.size tt

pub multiple-v-requires-clause-coordinates : goal.multiple-v-requires-clause-coordinates
multiple-v-requires-clause-coordinates c = coordinates_grown {v = c.apply-image.result} (lit≤ tt) (subst (CoordinatesAtMost (10 ^ 14)) (sym c.apply-image.ensures.value) (place_image c.args.w.now c.column.result c.requires.map c.column.ensures.size))

pub sub-requires : goal.sub-requires
sub-requires c =
    let u = column_size c.args.n c.multiple-u.result c.column-2.result c.requires.n_at_most (coordinates_grown {v = c.column-2.result} (lit≤ tt) c.column-2.ensures.size) c.multiple-u.ensures.value in
    let v = column_size c.args.m c.multiple-v.result c.apply-image.result c.requires.m_at_most (subst (CoordinatesAtMost (10 ^ 14)) (sym c.apply-image.ensures.value) (place_image c.args.w.now c.column.result c.requires.map c.column.ensures.size)) c.multiple-v.ensures.value in
    difference_size _ _ u.x v.x

pub sub-requires-2 : goal.sub-requires-2
sub-requires-2 c =
    let u = column_size c.args.n c.multiple-u.result c.column-2.result c.requires.n_at_most (coordinates_grown {v = c.column-2.result} (lit≤ tt) c.column-2.ensures.size) c.multiple-u.ensures.value in
    let v = column_size c.args.m c.multiple-v.result c.apply-image.result c.requires.m_at_most (subst (CoordinatesAtMost (10 ^ 14)) (sym c.apply-image.ensures.value) (place_image c.args.w.now c.column.result c.requires.map c.column.ensures.size)) c.multiple-v.ensures.value in
    difference_size _ _ u.y v.y

pub sub-requires-3 : goal.sub-requires-3
sub-requires-3 c =
    let u = column_size c.args.n c.multiple-u.result c.column-2.result c.requires.n_at_most (coordinates_grown {v = c.column-2.result} (lit≤ tt) c.column-2.ensures.size) c.multiple-u.ensures.value in
    let v = column_size c.args.m c.multiple-v.result c.apply-image.result c.requires.m_at_most (subst (CoordinatesAtMost (10 ^ 14)) (sym c.apply-image.ensures.value) (place_image c.args.w.now c.column.result c.requires.map c.column.ensures.size)) c.multiple-v.ensures.value in
    difference_size _ _ u.z v.z

pub returns : goal.returns
returns c =
    let p = multiple (pos c.args.n) (triple_of c.args.onto) in
    let q = multiple (pos c.args.m) (image c.args.w.now (triple_of c.args.from)) in
    let e : c.multiple-u.result ≡ p = c.multiple-u.ensures.value ∙ ap (multiple (pos c.args.n)) c.column-2.ensures.value in
    let f : c.multiple-v.result ≡ q = c.multiple-v.ensures.value ∙ ap (multiple (pos c.args.m)) (c.apply-image.ensures.value ∙ ap (image c.args.w.now) c.column.ensures.value) in
    let g : c.mul-all.result ≡ pos (c.args.n * c.args.m) = c.mul-all.ensures ∙ (λ i. c.from.ensures i *ℤ c.from-2.ensures i) in
    folded_onto c.args.n c.args.m c.multiple-u.result c.multiple-v.result p q c.mul-all.result c.sub.result c.sub-2.result c.sub-3.result (record { x = c.folded.result; y = c.folded-2.result; z = c.folded-3.result }) e f g c.sub.ensures c.sub-2.ensures c.sub-3.ensures c.folded.ensures c.folded-2.ensures c.folded-3.ensures
