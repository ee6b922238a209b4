use Rattle.std.proofs.Common.{◌≡◌, Bool, true, false, not}
use Rattle.crystal.specs.Views.{atom_of}
use Rattle.positions.specs.Positions.{triple_of}
use Rattle.crystal.proofs.ImageLemmas.{image_member}
use Rattle.lists.proofs.Members.{member_at}
use Rattle.crystal.proofs.carrying.is_lost.Goals as goal

clash : (b : Bool) → not b ≡ true → b ≡ true → ⊥
clash true t e = absurd (cc t)
clash false t e = absurd (cc e)

pub returns-then-i-count : goal.returns-then-i-count
returns-then-i-count c t h =
    let x = atom_of c.atom.result.now in
    clash c.has_image.result t (c.has_image.ensures.1 (image_member c.args.cell.now c.args.action.now.matrix (triple_of c.args.shift) c.args.moments.now c.args.cell.now.atoms x h (member_at c.args.cell.now.atoms c.args.i x c.atom.ensures.value)))
