use Rattle.std.proofs.Common.{◌≡◌, ◌++◌, ap, ◌∙◌, subst, sym, List, ℕ}
use Rattle.std.specs.Prelude.{IsAscii}
use Rattle.operation_text.specs.EntryText.{entries_text}
use Rattle.operation_text.proofs.PlainTexts.{ascii_entries}
use Rattle.report_text.proofs.dataset.entries_words.Goals as goal

pub words_behind_space-requires-clause-ascii : goal.words_behind_space-requires-clause-ascii
words_behind_space-requires-clause-ascii c =
    let words : c.push_entries.new.out ≡ entries_text c.args.matrix.now = c.in_ok-push_entries.ensures ∙ ap (λ (text : List ℕ). text ++ entries_text c.args.matrix.now) c.new-words.ensures in
    subst IsAscii (sym words) (ascii_entries c.args.matrix.now)
