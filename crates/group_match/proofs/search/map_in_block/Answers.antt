use Rattle.std.proofs.Common.{◌≤◌, ◌+◌, ◌*◌, pos, arith}
use Rattle.exact_num.specs.Meanings.{fraction_of}
use Rattle.matrix3.specs.Matrices.{vector_map}
use Rattle.matrix3.proofs.FitsBySize.{product_fits}
use Rattle.match_spec.specs.Fractions.{point_of}
use Rattle.match_spec.specs.FirstMap.{IsLeastOrigin}
use Rattle.match_spec.proofs.ListedGroups.{step_facts}
use Rattle.group_match.proofs.Outcomes.{of_none, of_some}
use Rattle.group_match.proofs.TaskLemmas.{class_of_number, first_found, one_more_none}
use Rattle.group_match.proofs.search.map_in_block.Goals.{then-is_proper+in_ok-origin+in-None, else-is_proper}
use Rattle.group_match.proofs.search.map_in_block.Goals as goal

pub origin_for-requires-clause-class : goal.origin_for-requires-clause-class
origin_for-requires-clause-class c =
    class_of_number c.loop-number.number c.candidate-class.result c.candidate-class.ensures.value (c.is_proper.ensures.0 c.if-is_proper.true)

pub times-turn-requires-clause-fits : goal.times-turn-requires-clause-fits
times-turn-requires-clause-fits c =
    product_fits c.candidate-class.result c.args.back.now c.candidate-class.ensures.small (step_facts c.args.symbol.now.operations c.args.back.now c.requires.task.symbol_group c.requires.step).small tt

pub returns-in-Some-clause-found : goal.returns-in-Some-clause-found
returns-in-Some-clause-found c =
    let h = c.args.symbol.now.operations in
    let n = c.args.found.now.n in
    let m = c.args.found.now.operations in
    let s = c.args.back.now in
    let p = c.candidate-class.result in
    first_found h n m s c.loop-number.number p (point_of (vector_map fraction_of c.in-Some.origin)) (omega (arith, c.loop-number-test.true, c.requires.block)) c.candidate-class.ensures.value c.loop-number.invariant (class_of_number c.loop-number.number p c.candidate-class.ensures.value (c.is_proper.ensures.0 c.if-is_proper.true)) (of_some (λ f. IsLeastOrigin s h (pos n) m p (point_of (vector_map fraction_of f))) c.in_ok-origin.field-0 c.in-Some.origin c.in_ok-origin.ensures.found c.in-Some.is)

pub loop-number-preserved : goal.loop-number-preserved
loop-number-preserved c =
    let h = c.args.symbol.now.operations in
    let n = c.args.found.now.n in
    let m = c.args.found.now.operations in
    let s = c.args.back.now in
    let p = c.candidate-class.result in
    one_more_none h n m s c.loop-number.number p c.candidate-class.ensures.value c.loop-number.invariant (elim c.if-is_proper.branch [
      | then-is_proper+in_ok-origin+in-None w ↦ (λ ic. of_none w.in_ok-origin.field-0 w.in_ok-origin.ensures.absent w.in-None.is)
      | else-is_proper w ↦ (λ ic. absurd (let yes = c.is_proper.ensures.1 ic.proper in cc (yes, w.if-is_proper.false)))
    ])

pub returns-clause-absent : goal.returns-clause-absent
returns-clause-absent c =
    let ended : c.args.block * 27 + 27 ≤ c.loop-number.number = omega (arith, c.loop-number-test.false) in
    λ j l. c.loop-number.invariant j (omega (arith, l, ended))
