use Rattle.std.proofs.Common.{sym, subst}
use Rattle.group_match.specs.Rows.{MeetsSecond, AllMeet}
use Rattle.group_match.proofs.Adding.{none_more, none_up_to, none_some}
use Rattle.group_match.proofs.place.least_second.Goals.{then-meets_second+in-None, else-meets_second}
use Rattle.group_match.proofs.place.least_second.Goals as goal

pub loop-y-preserved : goal.loop-y-preserved
loop-y-preserved c =
    none_more _ _ c.loop-y.invariant (λ o. elim c.if-meets_second.branch [
      | then-meets_second+in-None w ↦ none_some _ _ w.in-None.ensures o.third
      | else-meets_second w ↦ (let yes = c.meets_second.ensures.1 (subst (AllMeet (λ r. MeetsSecond c.args.k r c.args.x c.loop-y.y)) (sym c.deref.ensures.value) o.second) in cc (yes, w.if-meets_second.false))
    ])

pub returns : goal.returns
returns c = none_up_to _ _ _ c.loop-y-test.false c.loop-y.invariant
