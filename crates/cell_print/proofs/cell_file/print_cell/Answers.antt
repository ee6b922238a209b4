use Rattle.std.proofs.Common.{◌≡◌, List, ℕ, sym, subst}
use Rattle.cell_text.specs.CellFile.{Spells}
use Rattle.cell_print.specs.CellFileText.{cell_file_text}
use Rattle.cell_print.proofs.TextLemmas.{file_from_pieces}
use Rattle.cell_print.proofs.SpelledCell.{cell_file_text-spells}
use Rattle.cell_print.proofs.cell_file.print_cell.Goals as goal

pub returns-clause-spelled : goal.returns-clause-spelled
returns-clause-spelled c =
    let value : c.push_cell.new.out ≡ cell_file_text c.args.cell.now = file_from_pieces c.args.cell.now c.kind.result _ _ _ c.new-out.ensures c.kind.ensures c.in_ok-push_heading.ensures.value c.in_ok-push_cell.ensures in
    λ printable. subst (λ (text : List ℕ). Spells text c.args.cell.now) (sym value) (cell_file_text-spells c.args.cell.now c.invariant.ensures.form printable)
