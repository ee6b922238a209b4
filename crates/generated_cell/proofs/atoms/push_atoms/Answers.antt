use Rattle.std.proofs.Common.{ℕ, refl}
use Rattle.generated_cell.specs.GeneratedText.{plane_of, nodes}
use Rattle.generated_cell.proofs.Loops.{lines_more, lines_all}
use Rattle.generated_cell.proofs.atoms.push_atoms.Goals as goal

pub loop-i-init : goal.loop-i-init
unfolding nodes
loop-i-init c = refl

pub loop-i-preserved : goal.loop-i-preserved
loop-i-preserved c =
    lines_more c.args.draws.now (λ (i : ℕ). plane_of i) c.loop-i.i c.loop-i.out _ _ c.loop-i-test.true c.loop-i.invariant c.in_ok-push_plane.ensures

pub returns : goal.returns
returns c =
    lines_all c.args.draws.now (λ (i : ℕ). plane_of i) c.loop-i.i c.loop-i.out _ c.loop-i-test.false c.loop-i.invariant
