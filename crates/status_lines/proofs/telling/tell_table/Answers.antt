use Rattle.std.proofs.Common.{◌≡◌, ap, subst, ◌∙◌, List, ℕ, ◌++◌, codes, decimal}
use Rattle.hall_symbol.specs.FaultTexts.{digits_of}
use Rattle.hall_text.specs.RowTexts.{row_text}
use Rattle.status_lines.specs.Telling.{Tells}
use Rattle.status_lines.proofs.TellingLemmas.{line_pieces, text_pieces}
use Rattle.status_lines.proofs.telling.tell_table.Goals as goal

pub returns-clause-told : goal.returns-clause-told
returns-clause-told g c =
    let t = c.text-text.result in
    let row : List ℕ = c.as_bytes-row.result.now in
    let front : List ℕ = c.as_bytes.result.now in
    let number : List ℕ = c.digits-number.result.now in
    let back : List ℕ = c.as_bytes-2.result.now in
    let is_row : row ≡ decimal c.args.row = c.as_bytes-row.ensures.value ∙ c.format.ensures.text in
    let Told : List ℕ → Type 0 = λ whole. Tells g.E.Sink.highest_count (g.E.Sink.state c.args.err.now) (g.E.Sink.state c.tell_pieces.new.err) whole in
    let said : List ℕ → List ℕ → List ℕ → List ℕ → List ℕ = λ r f d b. codes "magsym: row " ++ (r ++ (codes ": " ++ (f ++ (d ++ (b ++ codes "\n"))))) in
    let behind : List ℕ → List ℕ = λ tail. codes "magsym: row " ++ (decimal c.args.row ++ tail) in
    subst Told
    (ap (λ (m : List ℕ). m ++ (row ++ (codes ": " ++ (front ++ (number ++ (back ++ codes "\n")))))) c.as_slice.ensures
    ∙ (λ k. said (is_row k) (c.as_bytes.ensures.value k) (c.digits-number.ensures k) (c.as_bytes-2.ensures.value k))
    ∙ ap behind (text_pieces (codes ": ") t.front.now (digits_of t.number) t.back.now (codes "\n"))
    ∙ ap (λ (text : List ℕ). behind (codes ": " ++ (text ++ codes "\n"))) c.text-text.ensures
    ∙ line_pieces (codes "magsym: ") (codes "row ") (decimal c.args.row) (codes ": ") (row_text c.args.fault.now) (codes "\n"))
    c.tell_pieces.ensures.told
