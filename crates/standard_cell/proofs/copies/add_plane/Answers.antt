use Rattle.std.proofs.Common.{◌≡◌, ℕ, subst, arith}
use Rattle.standard_cell.specs.Frames.{IsCopy}
use Rattle.standard_cell.specs.Sweeps.{IsAdded, IsOnPlane}
use Rattle.standard_cell.proofs.CopyLemmas.{copies_ordered}
use Rattle.standard_cell.proofs.SweepLemmas.{plane_none, plane_more}
use Rattle.standard_cell.proofs.copies.add_plane.Goals as goal

pub loop-y-init : goal.loop-y-init
loop-y-init c = plane_none (IsCopy c.args.frame.now c.args.copies.now) c.args.frame.now.index c.args.x c.args.made.now.items

pub loop-y-preserved : goal.loop-y-preserved
loop-y-preserved c =
    let f = c.args.frame.now in
    let s = c.args.copies.now in
    plane_more (IsCopy f s) (copies_ordered f s c.requires.frame c.requires.copies.positive) f.index c.args.x c.loop-y.y c.args.made.now.items c.loop-y.made.items c.add_line.new.made.items c.loop-y.invariant c.in_ok-add_line.ensures

pub returns : goal.returns
returns c =
    let ended : c.loop-y.y ≡ c.args.frame.now.index = omega arith in
    subst (λ (k : ℕ). IsAdded c.args.made.now.items c.loop-y.made.items (IsCopy c.args.frame.now c.args.copies.now) (IsOnPlane c.args.frame.now.index c.args.x k)) ended c.loop-y.invariant
