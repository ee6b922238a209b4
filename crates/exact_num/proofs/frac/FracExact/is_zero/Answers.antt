use Rattle.std.proofs.Common.{◌≡◌, ap, pos, arith, SFits}
use mir.Syntax.{w128}
use Rattle.std.proofs.lemmas.Int.{ints}
use Rattle.ring.proofs.Sizes.{fits}
use Rattle.numbers.specs.Fraction.{Fraction}
use Rattle.numbers.proofs.FractionLemmas.{zero_is}
use Rattle.exact_num.proofs.frac.FracExact.is_zero.Goals as goal

pub returns : goal.returns
returns c =
    let p = c.args.self.now in
    let f : SFits w128 p.num = fits p.small.upper tt in
    (λ h. let z : p.num ≡ pos 0 = grind (arith, ints) in zero_is p.num p.den p.lowest z, λ e. let z : p.num ≡ pos 0 = ap (λ (q : Fraction). q.numerator) e in grind (arith, ints))
