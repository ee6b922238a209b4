use Rattle.std.proofs.Common.{◌≡◌, ◌++◌, ap, ◌∙◌, subst, sym, List, ℕ}
use Rattle.std.specs.Prelude.{IsAscii}
use Rattle.crystal.specs.Views.{metric_of}
use Rattle.plain_text.specs.NumberText.{numbers_text}
use Rattle.cell_print.specs.CellFileText.{scalar_products}
use Rattle.report_text.proofs.PlainTexts.{ascii_numbers}
use Rattle.report_text.proofs.dataset.metric_words.Goals as goal

pub words_behind_space-requires-clause-ascii : goal.words_behind_space-requires-clause-ascii
words_behind_space-requires-clause-ascii c =
    let scale = c.unsigned_abs-scale.result in
    let products = scalar_products (metric_of c.metric.result.now) in
    let words : c.push_products.new.out ≡ numbers_text scale products = c.in_ok-push_products.ensures ∙ ap (λ (text : List ℕ). text ++ numbers_text scale products) c.new-words.ensures in
    subst IsAscii (sym words) (ascii_numbers scale products)
