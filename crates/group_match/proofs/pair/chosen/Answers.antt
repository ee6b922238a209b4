use Rattle.std.proofs.Common.{◌+◌, [], ◌∷◌, ◌++◌, take, map, sym, subst, ap, ◌∙◌}
use Rattle.lists.proofs.Walks.{take_read}
use Rattle.op_group.specs.Views.{operation_of}
use Rattle.match_spec.specs.Searching.{IsFirstOfMatrix, IsLaterOfMatrix, IsPart}
use Rattle.group_match.specs.Matching.{pair_of}
use Rattle.group_match.proofs.Outcomes.{of_true, of_false}
use Rattle.std.proofs.lemmas.List.{map_push}
use Rattle.group_match.proofs.Loops.{part_more, part_skip}
use Rattle.group_match.proofs.pair.chosen.Goals.{then-is_first+in_ok-push, else-is_first}
use Rattle.group_match.proofs.pair.chosen.Goals as goal

pub loop-pair-preserved : goal.loop-pair-preserved
loop-pair-preserved c =
    let m = map operation_of c.args.found.now in
    let P = IsFirstOfMatrix m in
    let N = IsLaterOfMatrix m in
    let i = c.loop-pair.pair-index in
    let pairs = c.args.pairs.now in
    let x = c.pair-item.result in
    let old = c.loop-pair.first.items in
    let more = ap (map pair_of) (take_read pairs i x c.loop-pair-test.true c.pair-item.is) ∙ map_push pair_of (take i pairs) x in
    elim c.if-is_first.branch [
      | then-is_first+in_ok-push w ↦ subst (λ v. IsPart P N (map pair_of (take (i + 1) pairs)) (map pair_of v)) (sym (ap (λ v. v.items) w.first-is ∙ w.in_ok-push.ensures.items))
          (subst (IsPart P N (map pair_of (take (i + 1) pairs))) (sym (map_push pair_of old x)) (subst (λ xs. IsPart P N xs (map pair_of old ++ pair_of x ∷ [])) (sym more) (part_more P N (map pair_of (take i pairs)) (map pair_of old) (pair_of x) c.loop-pair.invariant (of_true c.is_first.result c.is_first.ensures.first w.if-is_first.true))))
      | else-is_first w ↦ subst (λ v. IsPart P N (map pair_of (take (i + 1) pairs)) (map pair_of v.items)) (sym w.first-is)
          (subst (λ xs. IsPart P N xs (map pair_of old)) (sym more) (part_skip P N (map pair_of (take i pairs)) (map pair_of old) (pair_of x) c.loop-pair.invariant (of_false c.is_first.result c.is_first.ensures.later w.if-is_first.false)))
    ]
