use Rattle.std.proofs.Common.{sym, subst}
use Rattle.group_match.specs.Rows.{MeetsFirst, AllMeet}
use Rattle.group_match.proofs.Adding.{none_more, none_up_to, none_open, place_found}
use Rattle.group_match.proofs.place.least_place.Goals.{then-meets_first+in-None, else-meets_first}
use Rattle.group_match.proofs.place.least_place.Goals as goal

pub returns-in-Some : goal.returns-in-Some
returns-in-Some c =
    place_found c.args.k c.args.rows.now c.loop-x.x c.in-Some.y c.in-Some.z c.loop-x-test.true c.loop-x.invariant (subst (AllMeet (λ r. MeetsFirst c.args.k r c.loop-x.x)) c.deref.ensures.value (c.meets_first.ensures.0 c.if-meets_first.true)) c.in-Some.ensures.0 c.in-Some.ensures.1

pub loop-x-preserved : goal.loop-x-preserved
loop-x-preserved c =
    none_more _ _ c.loop-x.invariant (λ s. elim c.if-meets_first.branch [
      | then-meets_first+in-None w ↦ none_open c.args.k c.args.rows.now c.loop-x.x w.in-None.ensures s
      | else-meets_first w ↦ (let yes = c.meets_first.ensures.1 (subst (AllMeet (λ r. MeetsFirst c.args.k r c.loop-x.x)) (sym c.deref.ensures.value) s.1.1.1.1.first) in cc (yes, w.if-meets_first.false))
    ])

pub returns : goal.returns
returns c = none_up_to _ _ _ c.loop-x-test.false c.loop-x.invariant
