use Rattle.std.proofs.Common.{ℕ, [], ◌∷◌, refl}
use Rattle.generated_cell.specs.GeneratedText.{node, row_of}
use Rattle.generated_cell.proofs.Loops.{lines_more, lines_all}
use Rattle.generated_cell.proofs.atoms.push_row.Goals as goal

pub loop-k-init : goal.loop-k-init
unfolding row_of
loop-k-init c = refl

pub loop-k-preserved : goal.loop-k-preserved
loop-k-preserved c =
    lines_more c.args.draws.now (λ (k : ℕ). node c.args.i c.args.j k ∷ []) c.loop-k.k c.loop-k.out _ _ c.loop-k-test.true c.loop-k.invariant c.in_ok-push_atom.ensures

pub returns : goal.returns
returns c =
    lines_all c.args.draws.now (λ (k : ℕ). node c.args.i c.args.j k ∷ []) c.loop-k.k c.loop-k.out _ c.loop-k-test.false c.loop-k.invariant
