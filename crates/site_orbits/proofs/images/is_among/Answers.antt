use Rattle.std.proofs.Common.{slice_index_or, ◌≡◌, refl, sym, subst, ◌∙◌, true, [], map, arith}
use Rattle.lists.specs.Increasing.{IsMember}
use Rattle.lists.proofs.Members.{mapped_member, member_index}
use Rattle.lists.proofs.Walks.{dropped_other, none_left}
use Rattle.crystal_spec.specs.Matrices.{Triple}
use Rattle.positions.specs.Positions.{triple_of}
use Rattle.site_orbits.proofs.images.is_among.Goals as goal

pub loop-image-init : goal.loop-image-init
loop-image-init c = λ m. m

pub returns-then-is_same : goal.returns-then-is_same
returns-then-is_same c =
    let images = c.args.images.now in
    let same = c.is_same.ensures.0 c.if-is_same.true in
    ((λ _. subst (λ (p : Triple). IsMember p (map triple_of images)) same (mapped_member triple_of _ images (member_index images c.loop-image.image-index [] c.loop-image-test.true))), (λ _. refl))

pub loop-image-preserved : goal.loop-image-preserved
loop-image-preserved c m =
    let other : triple_of c.args.place ≡ triple_of (slice_index_or c.args.images.now c.loop-image.image-index []) → ⊥ = λ e. (let yes : c.is_same.result ≡ true = c.is_same.ensures.1 (sym e) in cc (sym c.if-is_same.false ∙ yes)) in
    dropped_other triple_of c.args.images.now c.loop-image.image-index [] (triple_of c.args.place) c.loop-image-test.true other (c.loop-image.invariant m)

pub returns : goal.returns
returns c = ((λ f. absurd (cc f)), (λ m. absurd (none_left triple_of c.args.images.now c.loop-image.image-index (triple_of c.args.place) (omega arith) (c.loop-image.invariant m))))
