use Rattle.std.proofs.Common.{sym, ap, ◌∙◌}
use Rattle.lists.proofs.Members.{member_read}
use Rattle.crystal_spec.specs.Matrices.{Triple, image}
use Rattle.group_match.proofs.Outcomes.{of_false}
use Rattle.group_match.proofs.Blocks.{same_a13, same_a23}
use Rattle.group_match.proofs.column.may_match.Goals as goal

pub image_column-image-requires-clause-c : goal.image_column-image-requires-clause-c
image_column-image-requires-clause-c c =
    c.requires.small c.source-item.result (member_read c.args.sources.now c.loop-source.source-index c.source-item.result c.loop-source-test.true c.source-item.is)

pub returns-then-not-any_has_entries : goal.returns-then-not-any_has_entries
returns-then-not-any_has_entries c q rows =
    let s = c.source-item.result in
    let p = c.args.p.now in
    let is = c.image_column-image.ensures ∙ ap (λ (t : Triple). image p (image s.inner t)) c.last_column-last.ensures.value in
    record {
      source = s;
      of_list = member_read c.args.sources.now c.loop-source.source-index s c.loop-source-test.true c.source-item.is;
      none = λ o m em es. of_false _ c.any_has_entries.ensures c.if-not-any_has_entries.true o m (ap (λ v. v.a13) em ∙ (same_a13 p q s.inner rows ∙ sym (ap (λ (t : Triple). t.x) is))) (ap (λ v. v.a23) em ∙ (same_a23 p q s.inner rows ∙ sym (ap (λ (t : Triple). t.y) is))) es;
    }
