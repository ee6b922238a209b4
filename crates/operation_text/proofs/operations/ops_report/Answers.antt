use Rattle.std.proofs.Common.{◌≡◌, sym, ap, ◌∙◌, ◌++◌, length, ◌≤◌, map, append-nil, rules}
use Rattle.std.proofs.lemmas.List.{drop_all}
use Rattle.op_group.specs.Views.{operation_of}
use Rattle.operation_text.specs.OperationText.{lines_text}
use Rattle.operation_text.specs.Pages.{page}
use Rattle.operation_text.proofs.PageLemmas.{page-map}
use Rattle.operation_text.proofs.operations.ops_report.Goals as goal

pub returns : goal.returns
returns c =
    let skip = c.args.skip in
    let most = c.args.take in
    let n = c.n-n.result in
    let items = c.page-op-items.result.now in
    let out = c.loop-op.out in
    let past : length items ≤ c.loop-op.op-index = search rules in
    let none_left = drop_all c.loop-op.op-index items past in
    let lines : out ≡ lines_text n (map operation_of items) =
    sym (append-nil out) ∙ ap (λ rest. out ++ lines_text n (map operation_of rest)) (sym none_left) ∙ c.loop-op.invariant in
    let shown : map operation_of items ≡ page skip most c.args.list.now.operations =
    ap (map operation_of) c.page-op-items.ensures ∙ page-map operation_of skip most c.ops.result.now ∙ ap (page skip most) c.ops.ensures in
    lines ∙ ap (lines_text n) shown ∙ ap (λ k. lines_text k (page skip most c.args.list.now.operations)) c.n-n.ensures
