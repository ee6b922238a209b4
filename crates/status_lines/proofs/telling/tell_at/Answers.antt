use Rattle.std.proofs.Common.{◌≡◌, sym, ap, subst, ◌∙◌, List, ℕ, ◌++◌, append_assoc, codes, decimal}
use Rattle.status_lines.specs.Statuses.{fault_text}
use Rattle.status_lines.specs.Telling.{Tells}
use Rattle.status_lines.proofs.TellingLemmas.{line_pieces}
use Rattle.status_lines.proofs.telling.tell_at.Goals as goal

pub returns-clause-told : goal.returns-clause-told
returns-clause-told g c =
    let place : List ℕ = c.args.place.now in
    let line : List ℕ = c.as_bytes-line.result.now in
    let text : List ℕ = c.as_bytes.result.now in
    let is_line : line ≡ decimal c.args.line = c.as_bytes-line.ensures.value ∙ c.format.ensures.text in
    let is_text : text ≡ fault_text c.args.fault.now = c.as_bytes.ensures.value ∙ c.requires in
    let Told : List ℕ → Type 0 = λ whole. Tells g.E.Sink.highest_count (g.E.Sink.state c.args.err.now) (g.E.Sink.state c.tell_pieces.new.err) whole in
    let behind : List ℕ → List ℕ → List ℕ = λ n t. n ++ (codes ": " ++ (t ++ codes "\n")) in
    subst Told
    (ap (λ (front : List ℕ). front ++ (place ++ behind line text)) c.as_slice.ensures
    ∙ (λ k. codes "magsym: " ++ (place ++ behind (is_line k) (is_text k)))
    ∙ sym (append_assoc (codes "magsym: ") place (behind (decimal c.args.line) (fault_text c.args.fault.now)))
    ∙ line_pieces (codes "magsym: ") place (decimal c.args.line) (codes ": ") (fault_text c.args.fault.now) (codes "\n"))
    c.tell_pieces.ensures.told
