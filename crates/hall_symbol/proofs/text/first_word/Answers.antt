use Rattle.std.proofs.Common.{sym, ◌∙◌, ◌≡◌, []}
use Rattle.hall_symbol.specs.Cuts.{skip_spaces}
use Rattle.hall_symbol.proofs.CutLemmas.{is_nil, not_nil, words-none, words-first, rest-first}
use Rattle.hall_symbol.proofs.text.first_word.Goals as goal

pub returns-then-is_empty-clause-words : goal.returns-then-is_empty-clause-words
returns-then-is_empty-clause-words c = words-none c.args.text.now (sym c.skip_spaces-found.ensures ∙ is_nil c.skip_spaces-found.result.now (sym c.is_empty.ensures ∙ c.if-is_empty.true))

pub returns-clause-words : goal.returns-clause-words
returns-clause-words c =
    let full : skip_spaces c.args.text.now ≡ [] → ⊥ = λ e. not_nil c.skip_spaces-found.result.now (sym c.is_empty.ensures ∙ c.if-is_empty.false) (c.skip_spaces-found.ensures ∙ e) in
    rw (c.cut.ensures.before, c.cut.ensures.from, c.skip_spaces-found.ensures) (words-first c.args.text.now full, rest-first c.args.text.now full)
