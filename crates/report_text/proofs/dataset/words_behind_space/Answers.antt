use Rattle.std.proofs.Common.{◌∙◌, subst, sym}
use Rattle.std.specs.Prelude.{IsUtf8}
use Rattle.std.proofs.lemmas.Result.{IfOk-weaker}
use Rattle.std.proofs.lemmas.Str.{IsUtf8-from_ascii, IsAscii-drop}
use Rattle.report_text.proofs.DatasetLemmas.{behind_first}
use Rattle.report_text.proofs.dataset.words_behind_space.Goals as goal

pub returns : goal.returns
returns c =
    let words = c.args.words.now in
    let piece = behind_first c.as_slice.result.now words c.as_slice.ensures in
    let utf8 = subst IsUtf8 (sym piece) (IsUtf8-from_ascii _ (IsAscii-drop words 1 c.requires.ascii)) in
    IfOk-weaker c.from_utf8_lossy.result _ _ (λ text same. same utf8 ∙ piece) c.from_utf8_lossy.ensures.ok
