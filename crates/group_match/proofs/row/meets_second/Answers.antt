use Rattle.std.proofs.Common.{get_or, take, sym, subst}
use Rattle.lists.proofs.Walks.{take_read}
use Rattle.lists.proofs.Members.{member_read, each_pushed}
use Rattle.group_match.specs.declared.row.Row.{Row}
use Rattle.group_match.specs.Rows.{MeetsSecond, AllMeet}
use Rattle.std.proofs.lemmas.List.{get_or_default}
use Rattle.group_match.proofs.row.meets_second.Goals as goal

pub returns-then-not-holds_second : goal.returns-then-not-holds_second
returns-then-not-holds_second c =
    let x : Row = get_or c.args.rows.now c.loop-row.row-index (record { x = 0; y = 0; z = 0; rest = 0 }) in
    ((λ t. absurd (cc t)), (λ all. absurd (let yes = c.holds_second.ensures.1 (all x (member_read c.args.rows.now c.loop-row.row-index x c.loop-row-test.true (get_or_default c.args.rows.now c.loop-row.row-index (record { x = 0; y = 0; z = 0; rest = 0 }) (get_or c.args.rows.now c.loop-row.row-index (record { x = 0; y = 0; z = 0; rest = 0 })) c.loop-row-test.true))) in cc (yes, c.if-not-holds_second.true))))

pub loop-row-preserved : goal.loop-row-preserved
loop-row-preserved c =
    let x : Row = get_or c.args.rows.now c.loop-row.row-index (record { x = 0; y = 0; z = 0; rest = 0 }) in
    let is = get_or_default c.args.rows.now c.loop-row.row-index (record { x = 0; y = 0; z = 0; rest = 0 }) (get_or c.args.rows.now c.loop-row.row-index (record { x = 0; y = 0; z = 0; rest = 0 })) c.loop-row-test.true in
    subst (AllMeet (λ r. MeetsSecond c.args.k r c.args.x c.args.y)) (sym (take_read c.args.rows.now c.loop-row.row-index x c.loop-row-test.true is))
    (each_pushed (λ r. MeetsSecond c.args.k r c.args.x c.args.y) (take c.loop-row.row-index c.args.rows.now) x c.loop-row.invariant (c.holds_second.ensures.0 c.if-not-holds_second.false))
