use Rattle.std.proofs.Common.{sym, ap, subst, ◌∙◌}
use Rattle.report_text.specs.PrimitiveText.{cell_in_basis_text}
use Rattle.command_words.specs.declared.command.Command.TheVariants.{Primitive}
use Rattle.report_basis.specs.declared.Kept.{Kept}
use Rattle.answers.specs.PrimitiveReports.{IsPrimitiveReport}
use Rattle.answers.specs.Reports.{IsReport}
use Rattle.answers.proofs.primitive.report_of_primitive.Goals as goal

-- in the basis that is kept
pub returns : goal.returns
returns c s made =
    let p = c.args.made.now in
    let report : IsPrimitiveReport s p.back c.in_ok-text.text = record {
      primitive = made.primitive;
      niggli = made.niggli;
      index = p.index;
      index_is = made.index;
      counted = made.counted;
      lines = c.in_ok-text.ensures ∙ ap (cell_in_basis_text p.index p.back) made.cell;
    } in
    subst (λ (k : Kept). IsReport Primitive s k c.in_ok-text.text) (sym c.kept.ensures) report
