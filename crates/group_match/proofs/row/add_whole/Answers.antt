use Rattle.std.proofs.Common.{pos}
use Rattle.positions.specs.Positions.{triple}
use Rattle.group_match.specs.Rows.{place}
use Rattle.group_match.proofs.Congruences.{congruence, no_congruence, k_positive, d_nonzero}
use Rattle.group_match.proofs.row.add_whole.Goals as goal

pub returns-in-None-clause-none : goal.returns-in-None-clause-none
returns-in-None-clause-none c x y z w =
    no_congruence c.args.d (pos c.args.k) c.args.rest (triple c.args.a c.args.b c.args.c) (place x y z) (λ q e. cc (c.in-None.ensures.exact.1 (d_nonzero c.args.d c.requires.positive, (q, e)))) w

pub returns-in_ok-add-in-Some-clause-added : goal.returns-in_ok-add-in-Some-clause-added
returns-in_ok-add-in-Some-clause-added c x y z =
    let here = congruence c.args.k (k_positive c.args.k c.requires.at_least) (triple c.args.a c.args.b c.args.c) c.in-Some.quotient c.residue.result c.residue-in-Some.result c.residue-in-Some-2.result c.residue-in-Some-3.result c.residue.ensures c.residue-in-Some.ensures c.residue-in-Some-2.ensures c.residue-in-Some-3.ensures x y z c.args.d c.args.rest c.requires.positive c.in-Some.ensures.value in
    let step = c.in_ok-add-in-Some.ensures c.args.k x y z in
    ((λ p. (let r = step.0 p in (here.0 r.0, r.1))), (λ p. step.1 (here.1 p.0, p.1)))
