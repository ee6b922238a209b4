use Rattle.std.proofs.Common.{◌/◌, ap, ◌∙◌, rules}
use Rattle.std.specs.Prelude.{FitsSigned}
use Rattle.std.specs.Int.{w128}
use Rattle.std.proofs.lemmas.Int.{to_z-of_z}
use Rattle.plain_text.specs.NumberWords.{signed}
use Rattle.plain_text.proofs.Signs.{signed-mul}
use Rattle.plain_text.proofs.number.times.Goals as goal

pub returns-clause-value : goal.returns-clause-value
returns-clause-value c =
    let f = c.args.f.now in
    let fits : FitsSigned w128 c.with_sign.result = search rules in
    to_z-of_z w128 c.with_sign.result fits ∙ c.with_sign.ensures.value ∙ ap (signed f.negative) c.size_of-size.ensures.value ∙ signed-mul f.negative f.num (c.args.d / f.den)
