use Rattle.std.proofs.Common.{◌∙◌}
use Rattle.report_text.proofs.PrimitiveLemmas.{cell_from_pieces, primitive_from_parts}
use Rattle.report_text.proofs.primitives.prim_report.Goals as goal

pub returns : goal.returns
returns c =
    cell_from_pieces c.index.result c.back.result.now c.cell-cell.result.now c.kind.result _ _ _ _ _ c.new-out.ensures c.kind.ensures c.in_ok-push_heading.ensures.value c.in_ok-push_index.ensures c.in_ok-push_back.ensures c.in_ok-push_cell.ensures
    ∙ primitive_from_parts c.args.prim.now _ _ _ c.index.ensures.value c.back.ensures c.cell-cell.ensures
