use Rattle.std.proofs.Common.{length, not, arith, drop}
use Rattle.std.specs.Prelude.{◌==◌}
use Rattle.std.specs.List.{list_all}
use Rattle.std.proofs.lemmas.Bool.{and_parts}
use Rattle.plain_text.specs.Digits.{is_digit, value_of_digits}
use Rattle.plain_text.proofs.DigitLemmas.{fold_bound, fold_grows, digits_below}
use Rattle.plain_text.proofs.digits.value_of_digits.Goals as goal

pub overflow_mul-value : goal.overflow_mul-value
overflow_mul-value c =
    let short = digits_below c.args.digits.now 18 (and_parts (not (length c.args.digits.now == 0)) (list_all is_digit c.args.digits.now) c.requires.digits).1 c.requires.short in
    let here = fold_bound c.args.digits.now c.loop-b.value c.loop-b.b-index (value_of_digits c.args.digits.now) c.loop-b-test.true c.loop-b.invariant in
    omega (arith, short, here)

pub overflow_add-value : goal.overflow_add-value
overflow_add-value c =
    let short = digits_below c.args.digits.now 18 (and_parts (not (length c.args.digits.now == 0)) (list_all is_digit c.args.digits.now) c.requires.digits).1 c.requires.short in
    let here = fold_bound c.args.digits.now c.loop-b.value c.loop-b.b-index (value_of_digits c.args.digits.now) c.loop-b-test.true c.loop-b.invariant in
    omega (arith, short, here)

pub returns-clause-bound : goal.returns-clause-bound
returns-clause-bound c =
    let short = digits_below c.args.digits.now 18 (and_parts (not (length c.args.digits.now == 0)) (list_all is_digit c.args.digits.now) c.requires.digits).1 c.requires.short in
    let here = fold_grows (drop c.loop-b.b-index c.args.digits.now) c.loop-b.value in
    omega (arith, short, here, c.loop-b.invariant)
