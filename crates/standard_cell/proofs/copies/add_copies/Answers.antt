use Rattle.std.proofs.Common.{◌≡◌, ℕ, subst, arith}
use Rattle.standard_cell.specs.Frames.{IsCopy}
use Rattle.standard_cell.specs.Sweeps.{IsAdded, IsInSpace}
use Rattle.standard_cell.proofs.CopyLemmas.{copies_ordered}
use Rattle.standard_cell.proofs.SweepLemmas.{space_none, space_more}
use Rattle.standard_cell.proofs.copies.add_copies.Goals as goal

pub loop-x-init : goal.loop-x-init
loop-x-init c = space_none (IsCopy c.args.frame.now c.args.copies.now) c.args.frame.now.index c.args.made.now.items

pub loop-x-preserved : goal.loop-x-preserved
loop-x-preserved c =
    let f = c.args.frame.now in
    let s = c.args.copies.now in
    space_more (IsCopy f s) (copies_ordered f s c.requires.frame c.requires.copies.positive) f.index c.loop-x.x c.args.made.now.items c.loop-x.made.items c.add_plane.new.made.items c.loop-x.invariant c.in_ok-add_plane.ensures

pub returns : goal.returns
returns c =
    let ended : c.loop-x.x ≡ c.args.frame.now.index = omega arith in
    subst (λ (k : ℕ). IsAdded c.args.made.now.items c.loop-x.made.items (IsCopy c.args.frame.now c.args.copies.now) (IsInSpace c.args.frame.now.index k)) ended c.loop-x.invariant
