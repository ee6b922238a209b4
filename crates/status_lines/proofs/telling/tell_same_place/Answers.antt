use Rattle.std.proofs.Common.{◌≡◌, sym, ap, subst, ◌∙◌, List, ℕ, ◌++◌, append_assoc, codes, decimal}
use Rattle.cell_text.specs.declared.texts.TheConstants.{BEFORE_ATOMS, BETWEEN_ATOMS, BEHIND_ATOMS}
use Rattle.status_lines.specs.Telling.{Tells}
use Rattle.status_lines.proofs.TellingLemmas.{line_pieces, five_joined}
use Rattle.status_lines.proofs.telling.tell_same_place.Goals as goal

pub returns-clause-told : goal.returns-clause-told
returns-clause-told g c =
    let place : List ℕ = c.args.place.now in
    let line : List ℕ = c.as_bytes-line.result.now in
    let before : List ℕ = c.as_bytes.result.now in
    let first : List ℕ = c.as_bytes-first.result.now in
    let between : List ℕ = c.as_bytes-2.result.now in
    let second : List ℕ = c.as_bytes-second.result.now in
    let behind : List ℕ = c.as_bytes-3.result.now in
    let is_line : line ≡ decimal c.args.line = c.as_bytes-line.ensures.value ∙ c.format.ensures.text in
    let is_first : first ≡ decimal c.args.first = c.as_bytes-first.ensures.value ∙ c.format-2.ensures.text in
    let is_second : second ≡ decimal c.args.second = c.as_bytes-second.ensures.value ∙ c.format-3.ensures.text in
    let rule : List ℕ = BEFORE_ATOMS.now ++ decimal c.args.first ++ BETWEEN_ATOMS.now ++ decimal c.args.second ++ BEHIND_ATOMS.now in
    let Told : List ℕ → Type 0 = λ whole. Tells g.E.Sink.highest_count (g.E.Sink.state c.args.err.now) (g.E.Sink.state c.tell_pieces.new.err) whole in
    let said : List ℕ → List ℕ → List ℕ → List ℕ → List ℕ → List ℕ → List ℕ = λ n a i b j d. codes "magsym: " ++ (place ++ (n ++ (codes ": " ++ (a ++ (i ++ (b ++ (j ++ (d ++ codes "\n")))))))) in
    subst Told
    (ap (λ (front : List ℕ). front ++ (place ++ (line ++ (codes ": " ++ (before ++ (first ++ (between ++ (second ++ (behind ++ codes "\n"))))))))) c.as_slice.ensures
    ∙ (λ k. said (is_line k) (c.as_bytes.ensures.value k) (is_first k) (c.as_bytes-2.ensures.value k) (is_second k) (c.as_bytes-3.ensures.value k))
    ∙ ap (λ (rest : List ℕ). codes "magsym: " ++ (place ++ (decimal c.args.line ++ (codes ": " ++ rest)))) (five_joined BEFORE_ATOMS.now (decimal c.args.first) BETWEEN_ATOMS.now (decimal c.args.second) BEHIND_ATOMS.now (codes "\n"))
    ∙ sym (append_assoc (codes "magsym: ") place (decimal c.args.line ++ (codes ": " ++ (rule ++ codes "\n"))))
    ∙ line_pieces (codes "magsym: ") place (decimal c.args.line) (codes ": ") rule (codes "\n"))
    c.tell_pieces.ensures.told
