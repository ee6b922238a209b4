use Rattle.std.proofs.Common.{ap, subst, ◌∙◌, List, ℕ, ◌++◌, codes}
use Rattle.hall_symbol.specs.FaultTexts.{digits_of}
use Rattle.status_lines.specs.Telling.{Tells}
use Rattle.status_lines.proofs.TellingLemmas.{text_pieces}
use Rattle.status_lines.proofs.telling.tell_symbol.Goals as goal

pub returns-clause-told : goal.returns-clause-told
returns-clause-told g c =
    let t = c.text-text.result in
    let front : List ℕ = c.as_bytes.result.now in
    let number : List ℕ = c.digits-number.result.now in
    let back : List ℕ = c.as_bytes-2.result.now in
    let Told : List ℕ → Type 0 = λ whole. Tells g.E.Sink.highest_count (g.E.Sink.state c.args.err.now) (g.E.Sink.state c.tell_pieces.new.err) whole in
    let said : List ℕ → List ℕ → List ℕ → List ℕ = λ f d b. codes "magsym: symbol: " ++ (f ++ (d ++ (b ++ codes "\n"))) in
    subst Told
    (ap (λ (m : List ℕ). m ++ (front ++ (number ++ (back ++ codes "\n")))) c.as_slice.ensures
    ∙ (λ k. said (c.as_bytes.ensures.value k) (c.digits-number.ensures k) (c.as_bytes-2.ensures.value k))
    ∙ text_pieces (codes "magsym: symbol: ") t.front.now (digits_of t.number) t.back.now (codes "\n")
    ∙ ap (λ (text : List ℕ). codes "magsym: symbol: " ++ (text ++ codes "\n")) c.text-text.ensures)
    c.tell_pieces.ensures.told
