use Rattle.std.proofs.Common.{◌≡◌, ◌≤◌, ℕ, List, length, sym, subst}
use Rattle.cell_text.specs.CellFile.{Spells}
use Rattle.generated_cell.specs.GeneratedText.{generated_text}
use Rattle.generated_cell.specs.GeneratedCell.{generated_cell}
use Rattle.generated_cell.proofs.TextPieces.{text_from_pieces}
use Rattle.generated_cell.proofs.SpelledText.{generated-spells, generated-length}
use Rattle.generated_cell.proofs.text.generate.Goals as goal

pub returns : goal.returns
returns c =
    let seed = c.args.seed in
    let value : c.append.new.self ≡ generated_text seed =
    text_from_pieces seed c.draws-draws.result c.in_ok-out.out c.push_atoms.new.out _ c.draws-draws.ensures c.in_ok-out.ensures c.in_ok-push_atoms.ensures c.in_ok-append.ensures.value in
    record {
      value = value;
      spelled = subst (λ (text : List ℕ). Spells text (generated_cell seed)) (sym value) (generated-spells seed);
      short = subst (λ (text : List ℕ). length text ≤ 262144) (sym value) (generated-length seed);
    }
