use Rattle.std.proofs.Common.{sym, subst, ◌∙◌}
use Rattle.crystal_spec.specs.Crystals.{Structure}
use Rattle.crystal_spec.specs.Operations.{ListsAll}
use Rattle.summary_text.specs.SummaryText.{summary_text}
use Rattle.report_basis.specs.declared.Kept.{Kept}
use Rattle.answers.specs.SummaryReports.{IsSummary, IsSeedReport}
use Rattle.answers.proofs.selfrun.report_of_summary.Goals as goal

-- of the primitive cell and of the cell; in the basis that is kept
pub returns : goal.returns
returns c =
    let s = c.args.cell.now in
    let p = c.args.found.now.made in
    let os = c.args.found.now.group.operations in
    let made = c.requires.found.cell in
    let order = c.in_ok-order.ensures s c.requires.found in
    let summary : IsSummary s p.back c.in_ok-text.text = record {
      primitive = made.primitive;
      niggli = made.niggli;
      index = p.index;
      index_is = made.index;
      counted = made.counted;
      operations = os;
      all = subst (λ (t : Structure). ListsAll t os) made.cell c.requires.found.group;
      operations_of_cell = order.operations;
      all_of_cell = order.all;
      kind = c.classify-kind.result.kind;
      is_type = c.classify-kind.ensures.kind;
      lines = c.in_ok-text.ensures.value ∙ (λ i. summary_text (c.count.ensures.value i) (c.index.ensures.value i) (c.count-2.ensures.value i) c.classify-kind.result.kind (order.count i));
    } in
    subst (λ (k : Kept). IsSeedReport c.args.seed k c.in_ok-text.text) (sym c.kept.ensures) (record { cell = s; spelled = c.requires.spelled; summary = summary })
