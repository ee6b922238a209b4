use Rattle.std.proofs.Common.{ℕ, refl}
use Rattle.generated_cell.specs.GeneratedText.{row_of, plane_of}
use Rattle.generated_cell.proofs.Loops.{lines_more, lines_all}
use Rattle.generated_cell.proofs.atoms.push_plane.Goals as goal

pub loop-j-init : goal.loop-j-init
unfolding plane_of
loop-j-init c = refl

pub loop-j-preserved : goal.loop-j-preserved
loop-j-preserved c =
    lines_more c.args.draws.now (λ (j : ℕ). row_of c.args.i j) c.loop-j.j c.loop-j.out _ _ c.loop-j-test.true c.loop-j.invariant c.in_ok-push_row.ensures

pub returns : goal.returns
returns c =
    lines_all c.args.draws.now (λ (j : ℕ). row_of c.args.i j) c.loop-j.j c.loop-j.out _ c.loop-j-test.false c.loop-j.invariant
