use Rattle.std.proofs.Common.{ap, ◌∙◌}
use Rattle.numbers.specs.Fraction.{lowest}
use Rattle.crystal_compare.specs.Search.{shifted}
use Rattle.crystal_compare.proofs.list.with_fractions.Goals as goal

pub returns : goal.returns
unfolding shifted
returns c k e =
    let m = c.args.map.now in
    let x = c.fraction.ensures ∙ ap (lowest m.shift.x) e in
    let y = c.fraction-2.ensures ∙ ap (lowest m.shift.y) e in
    let z = c.fraction-3.ensures ∙ ap (lowest m.shift.z) e in
    λ i. record { matrix = m.w; shift = record { x = x i; y = y i; z = z i }; sign = m.sign }
