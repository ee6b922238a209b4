use Rattle.std.proofs.Common.{◌^◌, ◌+◌, ◌*◌, length, ap, sym, ◌∙◌}
use Rattle.std.specs.Prelude.{ℕ, pos}
use Rattle.numbers.specs.Fraction.{Fraction, lowest}
use Rattle.plain_text.specs.NumberWords.{signed}
use Rattle.plain_text.proofs.Decimals.{value-append, digits_fit, unit_fits, unit_positive}
use Rattle.plain_text.proofs.number.decimal.Goals as goal

pub lowest-requires-clause-num : goal.lowest-requires-clause-num
lowest-requires-clause-num c =
    rw (c.value_of_digits.ensures.value, c.pow-unit.ensures, c.value_of_digits-2.ensures.value) (digits_fit c.args.before.now c.args.behind.now c.requires.before c.requires.behind c.requires.short)

pub lowest-requires-clause-den : goal.lowest-requires-clause-den
lowest-requires-clause-den c = rw c.pow-unit.ensures (unit_fits c.args.before.now c.args.behind.now c.requires.before c.requires.short)

pub lowest-requires-clause-positive : goal.lowest-requires-clause-positive
lowest-requires-clause-positive c = rw c.pow-unit.ensures (unit_positive (length c.args.behind.now))

pub returns : goal.returns
returns c =
    let before = c.args.before.now in
    let behind = c.args.behind.now in
    let made : ℕ → ℕ → Fraction = λ a b. lowest (signed c.args.negative a) (pos b) in
    c.lowest.ensures
    ∙ (λ i. made (c.value_of_digits.ensures.value i * c.pow-unit.ensures i + c.value_of_digits-2.ensures.value i) (c.pow-unit.ensures i))
    ∙ ap (λ (a : ℕ). made a (10 ^ length behind)) (sym (value-append before behind))
