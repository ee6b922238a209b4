use Rattle.std.proofs.Common.{sym, subst}
use Rattle.group_match.specs.Rows.{MeetsThird, AllMeet}
use Rattle.group_match.proofs.Adding.{none_more, none_up_to}
use Rattle.group_match.proofs.place.least_third.Goals as goal

pub loop-z-preserved : goal.loop-z-preserved
loop-z-preserved c =
    none_more _ _ c.loop-z.invariant (λ all. (let yes = c.meets_third.ensures.1 (subst (AllMeet (λ r. MeetsThird c.args.k r c.args.x c.args.y c.loop-z.z)) (sym c.deref.ensures.value) all) in cc (yes, c.if-meets_third.false)))

pub returns : goal.returns
returns c = none_up_to _ _ _ c.loop-z-test.false c.loop-z.invariant
