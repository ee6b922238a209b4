use Rattle.std.proofs.Common.{◌≡◌, sym, ap, ◌∙◌}
use Rattle.crystal_spec.specs.Crystals.{Structure}
use Rattle.operation_text.specs.Pages.{page_text}
use Rattle.answers.proofs.Listed.{group_carried}
use Rattle.answers.proofs.symmetry.report_of_page.Goals as goal

-- the operations of the cell, carried back from its primitive cell
pub returns : goal.returns
returns c s time found =
    let made = found.cell in
    let list = c.in_ok-list.ensures in
    let p = c.args.found.now.made in
    let same_n : c.in_ok-list.list.n ≡ s.n = list.n ∙ ap (λ (t : Structure). t.n) made.cell ∙ made.primitive.same.n in
    record {
      operations = c.in_ok-list.list.operations;
      all = group_carried time s p.cell c.args.found.now.group.operations c.in_ok-list.list.operations (λ h. list.all s made.of_cell made.primitive (sym made.cell) h) (λ h. list.all_same s made.of_cell made.primitive (sym made.cell) h) found.group;
      lines = c.in_ok-text.ensures ∙ (λ i. page_text (record { n = same_n i; operations = c.in_ok-list.list.operations }) c.args.skip (c.widened-most.ensures i));
    }
