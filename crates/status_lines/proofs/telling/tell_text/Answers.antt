use Rattle.std.proofs.Common.{ap, subst, ◌∙◌, List, ℕ, ◌++◌, codes}
use Rattle.status_lines.specs.Telling.{Tells}
use Rattle.status_lines.proofs.TellingLemmas.{three_pieces}
use Rattle.status_lines.proofs.telling.tell_text.Goals as goal

pub returns-clause-told : goal.returns-clause-told
returns-clause-told g c =
    let text : List ℕ = c.args.text.now in
    let Told : List ℕ → Type 0 = λ whole. Tells g.E.Sink.highest_count (g.E.Sink.state c.args.err.now) (g.E.Sink.state c.tell_pieces.new.err) whole in
    subst Told (ap (λ (front : List ℕ). front ++ (text ++ codes "\n")) c.as_slice.ensures ∙ three_pieces (codes "magsym: ") text (codes "\n")) c.tell_pieces.ensures.told
