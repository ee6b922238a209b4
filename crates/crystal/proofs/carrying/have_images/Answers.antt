use Rattle.std.proofs.Common.{◌≡◌, ◌∙◌, true, subst, sym}
use Rattle.crystal.specs.Views.{atom_of}
use Rattle.positions.specs.Positions.{triple_of}
use Rattle.lists.proofs.Walks.{drop_at}
use Rattle.lists.proofs.Members.{member_at}
use Rattle.crystal.specs.Images.{HaveImages}
use Rattle.crystal.proofs.ImageLemmas.{image_member}
use Rattle.crystal.proofs.carrying.have_images.Goals as goal

-- the map fails as the last one did
pub returns-then-fails_alike : goal.returns-then-fails_alike
returns-then-fails_alike c = ((λ t. absurd (cc t)), (λ h. absurd (c.fails_alike.ensures c.if-fails_alike.true h)))

pub returns-then-not-has_image : goal.returns-then-not-has_image
returns-then-not-has_image c =
    let x = atom_of c.atom.result.now in
    let image = λ (h : HaveImages c.args.cell.now c.args.action.now.matrix (triple_of c.args.shift) c.args.moments.now c.args.cell.now.atoms).
    image_member c.args.cell.now c.args.action.now.matrix (triple_of c.args.shift) c.args.moments.now c.args.cell.now.atoms x h (member_at c.args.cell.now.atoms c.loop-atom.atom x c.atom.ensures.value) in
    ((λ t. absurd (cc t)), (λ h. let yes : c.has_image.result ≡ true = c.has_image.ensures.1 (image h) in sym c.if-not-has_image.true ∙ yes))

pub loop-atom-preserved : goal.loop-atom-preserved
loop-atom-preserved c h =
    let x = atom_of c.atom.result.now in
    c.loop-atom.invariant (subst (HaveImages c.args.cell.now c.args.action.now.matrix (triple_of c.args.shift) c.args.moments.now) (sym (drop_at c.args.cell.now.atoms c.loop-atom.atom x c.atom.ensures.value))
    (c.has_image.ensures.0 c.if-not-has_image.false, h))
