use Rattle.std.proofs.Common.{[], ◌∷◌, sym, ap, ◌∙◌}
use Rattle.plain_text.specs.NumberWords.{before_mark, behind_mark}
use Rattle.plain_text.proofs.Reading.{decimal_read, fraction_read}
use Rattle.plain_text.proofs.number.read_number.Goals as goal

pub returns-then-are_digits : goal.returns-then-are_digits
returns-then-are_digits c =
    decimal_read c.args.form c.args.word.now _ _ c.is_negative-negative.result c.read_decimal.result
    (c.halves.ensures.before ∙ ap (before_mark 46) c.without_sign-size.ensures)
    (c.halves.ensures.behind ∙ ap (behind_mark 46 []) c.without_sign-size.ensures)
    c.is_negative-negative.ensures (sym c.are_digits.ensures ∙ c.if-are_digits.true) c.read_decimal.ensures

pub returns : goal.returns
returns c =
    fraction_read c.args.form c.args.word.now _ _ _ _ c.is_negative-negative.result c.read_fraction.result
    (c.halves.ensures.before ∙ ap (before_mark 46) c.without_sign-size.ensures)
    (c.halves.ensures.behind ∙ ap (behind_mark 46 []) c.without_sign-size.ensures)
    (c.halves-2.ensures.before ∙ ap (before_mark 47) c.without_sign-size.ensures)
    (c.halves-2.ensures.behind ∙ ap (behind_mark 47 (49 ∷ [])) c.without_sign-size.ensures)
    c.is_negative-negative.ensures (sym c.are_digits.ensures ∙ c.if-are_digits.false) c.read_fraction.ensures
