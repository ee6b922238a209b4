use Rattle.std.proofs.Common.{◌≡◌, pos, map, length, sym, subst, arith}
use Rattle.lists.proofs.Members.{mapped_member, member_read}
use Rattle.lists.proofs.Walks.{all_taken}
use Rattle.match_spec.specs.Searching.{AllWhole}
use Rattle.group_match.specs.Matching.{pair_of}
use Rattle.group_match.specs.Rows.{place}
use Rattle.group_match.proofs.Outcomes.{of_true, of_false}
use Rattle.group_match.proofs.Wholes.{more_pairs}
use Rattle.group_match.proofs.origin.rows_of.Goals as goal

pub loop-pair-init : goal.loop-pair-init
loop-pair-init c x y z = ((λ p k m. absurd m), (λ w. c.no_rows-rows.ensures c.args.k x y z))

pub add_pair-requires-clause-pair : goal.add_pair-requires-clause-pair
add_pair-requires-clause-pair c =
    c.requires.pairs c.pair-item.result (member_read c.args.pairs.now c.loop-pair.pair-index c.pair-item.result c.loop-pair-test.true c.pair-item.is)

pub returns-then-not-branch-clause-absent : goal.returns-then-not-branch-clause-absent
returns-then-not-branch-clause-absent c x y z w =
    of_false _ c.in_ok-add_pair.ensures.none c.if-not-branch.true x y z (w (pair_of c.pair-item.result) (mapped_member pair_of c.pair-item.result c.args.pairs.now (member_read c.args.pairs.now c.loop-pair.pair-index c.pair-item.result c.loop-pair-test.true c.pair-item.is)))

pub loop-pair-preserved : goal.loop-pair-preserved
loop-pair-preserved c x y z =
    more_pairs c.args.turn.now (pos c.args.n) c.args.start.now (pos c.args.k) c.args.pairs.now c.loop-pair.pair-index c.pair-item.result (place x y z) c.loop-pair-test.true c.pair-item.is (of_true _ c.in_ok-add_pair.ensures.added c.if-not-branch.false x y z) (c.loop-pair.invariant x y z)

pub returns-clause-found : goal.returns-clause-found
returns-clause-found c x y z =
    let ended : c.loop-pair.pair-index ≡ length c.args.pairs.now = omega arith in
    let h = c.loop-pair.invariant x y z in
    let all = all_taken c.args.pairs.now c.loop-pair.pair-index ended in (
      (λ p. subst (λ xs. AllWhole c.args.turn.now (pos c.args.n) c.args.start.now (pos c.args.k) (map pair_of xs) (place x y z)) all (h.0 p)),
      (λ w. h.1 (subst (λ xs. AllWhole c.args.turn.now (pos c.args.n) c.args.start.now (pos c.args.k) (map pair_of xs) (place x y z)) (sym all) w)),
    )
