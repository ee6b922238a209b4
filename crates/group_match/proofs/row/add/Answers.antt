use Rattle.std.proofs.Common.{◌≡◌, rules}
use Rattle.std.proofs.lemmas.Bool.Decides.{nat_tests}
use Rattle.group_match.proofs.Adding.{added_first, added_second, added_third}
use Rattle.group_match.proofs.row.add.Goals as goal

pub returns-in_ok-push : goal.returns-in_ok-push
returns-in_ok-push c k x y z = added_third k c.args.rows.now c.args.row c.push.new.self x y z c.in_ok-push.ensures.items

pub returns-in_ok-push-2 : goal.returns-in_ok-push-2
returns-in_ok-push-2 c k x y z =
    let none : c.args.row.z ≡ 0 = search (rules, nat_tests) in
    added_second k c.args.rows.now c.args.row _ x y z none c.in_ok-push-2.ensures.items

pub returns-in_ok-push-3 : goal.returns-in_ok-push-3
returns-in_ok-push-3 c k x y z =
    let none : c.args.row.z ≡ 0 = search (rules, nat_tests) in
    let none_y : c.args.row.y ≡ 0 = search (rules, nat_tests) in
    added_first k c.args.rows.now c.args.row _ x y z none none_y c.in_ok-push-3.ensures.items
