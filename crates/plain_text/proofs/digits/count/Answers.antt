use Rattle.std.proofs.Common.{length, not, arith, nat_le, sym, ◌∙◌}
use Rattle.std.specs.Prelude.{◌==◌}
use Rattle.std.specs.List.{list_all}
use Rattle.std.proofs.lemmas.Bool.{and_parts, leb-true}
use Rattle.plain_text.specs.Digits.{is_digit, is_digits}
use Rattle.plain_text.proofs.DigitLemmas.{digits_below}
use Rattle.plain_text.proofs.digits.count.Goals as goal

pub overflow_cast-result : goal.overflow_cast-result
overflow_cast-result c =
    let ds = c.args.word.now in
    let parts = and_parts (is_digits ds) (nat_le (length ds) 9) (sym c.is_count.ensures ∙ c.if-not-is_count.false) in
    let below = digits_below ds 9 (and_parts (not (length ds == 0)) (list_all is_digit ds) parts.0).1 (leb-true (length ds) 9 parts.1) in
    omega (arith, below, c.value_of_digits.ensures.value)
