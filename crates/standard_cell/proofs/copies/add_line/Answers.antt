use Rattle.std.proofs.Common.{◌≡◌, ℕ, ◌<◌, pos, subst, arith}
use Rattle.std.proofs.lemmas.Int.{ints}
use Rattle.standard_cell.specs.Frames.{IsCopy}
use Rattle.standard_cell.specs.Sweeps.{IsAdded, IsUnder, IsOnLine}
use Rattle.standard_cell.proofs.CopyLemmas.{copies_ordered}
use Rattle.standard_cell.proofs.SweepLemmas.{line_none, line_more}
use Rattle.standard_cell.proofs.copies.add_line.Goals as goal

under : (n k : ℕ) → n < k → IsUnder k (pos n)
under n k h = record { low = omega (arith, ints); high = omega (arith, ints, h) }

pub loop-z-init : goal.loop-z-init
loop-z-init c = line_none (IsCopy c.args.frame.now c.args.copies.now) c.args.x c.args.y c.args.made.now.items

pub add_copy-requires-clause-t : goal.add_copy-requires-clause-t
add_copy-requires-clause-t c = record { x = under c.args.x c.args.frame.now.index c.requires.x; y = under c.args.y c.args.frame.now.index c.requires.y; z = under c.loop-z.z c.args.frame.now.index c.loop-z-test.true }

pub loop-z-preserved : goal.loop-z-preserved
loop-z-preserved c =
    let f = c.args.frame.now in
    let s = c.args.copies.now in
    line_more (IsCopy f s) (copies_ordered f s c.requires.frame c.requires.copies.positive) c.args.x c.args.y c.loop-z.z c.args.made.now.items c.loop-z.made.items c.add_copy.new.made.items c.loop-z.invariant c.in_ok-add_copy.ensures

pub returns : goal.returns
returns c =
    let ended : c.loop-z.z ≡ c.args.frame.now.index = omega arith in
    subst (λ (k : ℕ). IsAdded c.args.made.now.items c.loop-z.made.items (IsCopy c.args.frame.now c.args.copies.now) (IsOnLine c.args.x c.args.y k)) ended c.loop-z.invariant
