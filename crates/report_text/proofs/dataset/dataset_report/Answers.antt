use Rattle.std.proofs.Common.{◌++◌, ◌∷◌, [], ap, ◌∙◌, List, ℕ}
use Rattle.serde_json.specs.Written.{compact_text, has_float}
use Rattle.report_text.specs.DatasetText.{dataset_text}
use Rattle.report_text.proofs.DatasetLemmas.{dataset_has_no_float}
use Rattle.report_text.proofs.dataset.dataset_report.Goals as goal

pub returns : goal.returns
unfolding dataset_text
returns c =
    let no_float = ap has_float c.in_ok-value.ensures ∙ dataset_has_no_float c.args.prim.now.index c.args.prim.now.back c.args.prim.now.cell c.args.list.now c.args.cell_order c.args.kind.now c.args.orbits.now in
    let text = c.in_ok-text.ensures.text no_float ∙ ap compact_text c.in_ok-value.ensures in
    c.in_ok-push.ensures.value ∙ ap (λ (line : List ℕ). line ++ 10 ∷ []) (c.in_ok-out.ensures ∙ c.as_bytes.ensures.value ∙ text)
