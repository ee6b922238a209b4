use Rattle.std.proofs.Common.{◌∙◌}
use Rattle.operation_text.specs.OperationText.{operations_text}
use Rattle.answers.proofs.hall.report_of_group.Goals as goal

-- the lines of the whole list
pub returns : goal.returns
returns c word spelled =
    let n = c.requires.n in
    let os = c.args.list.now.operations in
    record {
      symbol = c.args.symbol.now;
      spelled = spelled;
      operations = os;
      group = c.requires.exact;
      ordered = c.invariant.ensures.ordered;
      lines = c.in_ok-text.ensures ∙ (λ i. operations_text (record { n = n i; operations = os }));
    }
