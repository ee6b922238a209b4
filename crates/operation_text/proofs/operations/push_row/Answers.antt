use Rattle.std.proofs.Common.{rules, ◌≡◌, ◌++◌, ◌∙◌, ap, append_assoc, List, ℕ}
use Rattle.operation_text.specs.OperationText.{terms_text, fraction_text}
use Rattle.operation_text.proofs.operations.push_row.Goals as goal

pub returns : goal.returns
returns c =
    let terms : c.push_terms.new.out ≡ c.args.out.now ++ terms_text c.args.x c.args.y c.args.z = search rules in
    c.in_ok-push_fraction.ensures ∙ ap (λ (text : List ℕ). text ++ fraction_text c.args.n c.args.t) terms ∙ append_assoc c.args.out.now (terms_text c.args.x c.args.y c.args.z) (fraction_text c.args.n c.args.t)
