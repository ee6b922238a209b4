use Rattle.std.proofs.Common.{◌≡◌, ◌++◌, subst, sym, ap, ◌∙◌, List, ℕ}
use Rattle.std.specs.Prelude.{IsAscii}
use Rattle.std.proofs.lemmas.Str.{IsUtf8-from_ascii}
use Rattle.op_group.specs.Views.{operation_of}
use Rattle.serde_json.specs.Data.{string}
use Rattle.operation_text.specs.OperationText.{parts_text}
use Rattle.operation_text.proofs.PlainTexts.{ascii_parts}
use Rattle.report_text.proofs.dataset.operation_value.Goals as goal

pub returns : goal.returns
returns c =
    let operation = operation_of c.args.op.now in
    let parts : c.push_parts.new.out ≡ parts_text c.args.n operation = c.in_ok-push_parts.ensures ∙ ap (λ (text : List ℕ). text ++ parts_text c.args.n operation) c.new-parts.ensures in
    let slice : c.as_slice.result.now ≡ parts_text c.args.n operation = c.as_slice.ensures ∙ parts in
    let plain = subst IsAscii (sym slice) (ascii_parts c.args.n operation) in
    c.from.ensures ∙ ap string (c.in_ok-text.ensures.ok (IsUtf8-from_ascii c.as_slice.result.now plain) ∙ slice)
