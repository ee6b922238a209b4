use Rattle.std.proofs.Common.{pos}
use Rattle.group_match.specs.Matching.{pair_of}
use Rattle.group_match.specs.Rows.{place}
use Rattle.group_match.proofs.Outcomes.{of_true, of_false}
use Rattle.group_match.proofs.Rests.{excess_rows}
use Rattle.group_match.proofs.origin.add_pair.Goals as goal

pub returns-then-not-branch-clause-none : goal.returns-then-not-branch-clause-none
returns-then-not-branch-clause-none c x y z w =
    let s = (excess_rows c.args.turn.now (pos c.args.n) (pos c.args.k) c.args.start.now (place x y z) (pair_of c.args.pair.now) c.units-d.result c.identity_less-a.result c.rest-rest.result c.units-d.ensures.value c.identity_less-a.ensures c.rest-rest.ensures).0 w in
    of_false _ c.in_ok-add_whole.ensures.none c.if-not-branch.true x y z s.0

pub returns-then-not-branch-2-clause-none : goal.returns-then-not-branch-2-clause-none
returns-then-not-branch-2-clause-none c x y z w =
    let s = (excess_rows c.args.turn.now (pos c.args.n) (pos c.args.k) c.args.start.now (place x y z) (pair_of c.args.pair.now) c.units-d.result c.identity_less-a.result c.rest-rest.result c.units-d.ensures.value c.identity_less-a.ensures c.rest-rest.ensures).0 w in
    of_false _ c.in_ok-add_whole-2.ensures.none c.if-not-branch-2.true x y z s.1.0

pub returns-then-not-branch-3-clause-none : goal.returns-then-not-branch-3-clause-none
returns-then-not-branch-3-clause-none c x y z w =
    let s = (excess_rows c.args.turn.now (pos c.args.n) (pos c.args.k) c.args.start.now (place x y z) (pair_of c.args.pair.now) c.units-d.result c.identity_less-a.result c.rest-rest.result c.units-d.ensures.value c.identity_less-a.ensures c.rest-rest.ensures).0 w in
    of_false _ c.in_ok-add_whole-3.ensures.none c.if-not-branch-3.true x y z s.1.1

pub returns-clause-added : goal.returns-clause-added
returns-clause-added c x y z =
    let s = excess_rows c.args.turn.now (pos c.args.n) (pos c.args.k) c.args.start.now (place x y z) (pair_of c.args.pair.now) c.units-d.result c.identity_less-a.result c.rest-rest.result c.units-d.ensures.value c.identity_less-a.ensures c.rest-rest.ensures in
    let one = of_true _ c.in_ok-add_whole.ensures.added c.if-not-branch.false x y z in
    let two = of_true _ c.in_ok-add_whole-2.ensures.added c.if-not-branch-2.false x y z in
    let three = of_true _ c.in_ok-add_whole-3.ensures.added c.if-not-branch-3.false x y z in (
      (λ p. (let c3 = three.0 p in let c2 = two.0 c3.1 in let c1 = one.0 c2.1 in (s.1 (c1.0, (c2.0, c3.0)), c1.1))),
      (λ w. (let r = s.0 w.0 in three.1 (r.1.1, two.1 (r.1.0, one.1 (r.0, w.1))))),
    )
