use Rattle.std.proofs.Common.{ℤ, pos, ◌+ℤ◌, ◌*ℤ◌, map, length, sym, ap, ◌∙◌}
use Rattle.numbers.specs.Fraction.{lowest}
use Rattle.std.proofs.lemmas.List.{length-map}
use Rattle.group_match.specs.Matching.{pair_of}
use Rattle.group_match.proofs.Wholes.{IsFor, start_is, start_size, no_place_at, no_place, place_is}
use Rattle.group_match.proofs.Outcomes.{of_none, of_some}
use Rattle.group_match.proofs.origin.least_origin.Goals as goal

pub rows_of-requires-clause-start : goal.rows_of-requires-clause-start
rows_of-requires-clause-start c =
    start_size c.args.turn.now c.args.n (map pair_of c.args.first.now) c.remainders-start.result c.requires.n_at_most
    (start_is c.args.turn.now c.args.n (map pair_of c.args.first.now) c.balance.result c.remainders-start.result c.units-d.result c.requires.n_at_least c.units-d.ensures.value c.balance.ensures c.remainders-start.ensures.x c.remainders-start.ensures.y c.remainders-start.ensures.z)

pub returns-in_default-clause-absent : goal.returns-in_default-clause-absent
returns-in_default-clause-absent c =
    no_place_at c.args.turn.now c.args.n (map pair_of c.args.pairs.now) (map pair_of c.args.first.now) c.remainders-start.result (start_is c.args.turn.now c.args.n (map pair_of c.args.first.now) c.balance.result c.remainders-start.result c.units-d.result c.requires.n_at_least c.units-d.ensures.value c.balance.ensures c.remainders-start.ensures.x c.remainders-start.ensures.y c.remainders-start.ensures.z) (length c.args.first.now) (sym (length-map c.args.first.now pair_of)) (of_none c.in_ok-rows.field-0 c.in_ok-rows.ensures.absent c.in_default.is)

pub returns-in-None-clause-absent : goal.returns-in-None-clause-absent
returns-in-None-clause-absent c =
    no_place c.args.turn.now c.args.n (map pair_of c.args.pairs.now) (map pair_of c.args.first.now) c.remainders-start.result (start_is c.args.turn.now c.args.n (map pair_of c.args.first.now) c.balance.result c.remainders-start.result c.units-d.result c.requires.n_at_least c.units-d.ensures.value c.balance.ensures c.remainders-start.ensures.x c.remainders-start.ensures.y c.remainders-start.ensures.z) (length c.args.first.now) (sym (length-map c.args.first.now pair_of)) c.in-Some.rows (of_some (IsFor c.args.turn.now c.args.n c.remainders-start.result (length c.args.first.now) (map pair_of c.args.pairs.now)) c.in_ok-rows.field-0 c.in-Some.rows c.in_ok-rows.ensures.found c.in-Some.is) c.in-None.ensures

pub returns-clause-found : goal.returns-clause-found
returns-clause-found c =
    place_is c.args.turn.now c.args.n (map pair_of c.args.pairs.now) (map pair_of c.args.first.now) c.remainders-start.result (start_is c.args.turn.now c.args.n (map pair_of c.args.first.now) c.balance.result c.remainders-start.result c.units-d.result c.requires.n_at_least c.units-d.ensures.value c.balance.ensures c.remainders-start.ensures.x c.remainders-start.ensures.y c.remainders-start.ensures.z) (length c.args.first.now) (sym (length-map c.args.first.now pair_of)) c.in-Some.rows (of_some (IsFor c.args.turn.now c.args.n c.remainders-start.result (length c.args.first.now) (map pair_of c.args.pairs.now)) c.in_ok-rows.field-0 c.in-Some.rows c.in_ok-rows.ensures.found c.in-Some.is) c.in-Some-least_place.x c.in-Some-least_place.y c.in-Some-least_place.z c.in-Some-least_place.ensures _ (c.coordinate.ensures ∙ ap (λ (d : ℤ). lowest (c.remainders-start.result.x +ℤ d *ℤ pos c.in-Some-least_place.x) (pos (length c.args.first.now) *ℤ d)) c.units-d.ensures.value) (c.coordinate-in-Some-least_place.ensures ∙ ap (λ (d : ℤ). lowest (c.remainders-start.result.y +ℤ d *ℤ pos c.in-Some-least_place.y) (pos (length c.args.first.now) *ℤ d)) c.units-d.ensures.value) (c.coordinate-in-Some-least_place-2.ensures ∙ ap (λ (d : ℤ). lowest (c.remainders-start.result.z +ℤ d *ℤ pos c.in-Some-least_place.z) (pos (length c.args.first.now) *ℤ d)) c.units-d.ensures.value) c.requires.n_at_least
