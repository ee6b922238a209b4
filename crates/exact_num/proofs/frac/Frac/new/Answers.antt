use Rattle.std.proofs.Common.{arith, ◌≡◌, ◌<ℤ◌, ◌+ℤ◌, sym, subst, pos, neg_ℤ, SFits, to_z-of_z}
use Rattle.std.specs.Prelude.{IsSome, ◌↔◌}
use Rattle.std.proofs.lemmas.Int.{ints}
use mir.Syntax.{w128}
use Rattle.ring.specs.Size.{AtMost}
use Rattle.ring.proofs.Sizes.{fits, at_most_sub}
use Rattle.numbers.specs.Fraction.{lowest, quotient}
use Rattle.numbers.proofs.FractionLemmas.{quotient-negative}
use Rattle.exact_num.specs.Small.{IsSmall}
use Rattle.exact_num.proofs.frac.Frac.new.Goals as goal

pub returns-then-den-lt0-clause-exact : goal.returns-then-den-lt0-clause-exact
returns-then-den-lt0-clause-exact c =
    let fn : SFits w128 c.args.num = c.ranges.num in
    let fd : SFits w128 c.args.den = c.ranges.den in
    let zero : AtMost 0 (pos 0) = record { size = omega arith } in
    let gn : SFits w128 (pos 0 +ℤ neg_ℤ c.args.num) = fits (at_most_sub zero c.requires.num_size) tt in
    let gd : SFits w128 (pos 0 +ℤ neg_ℤ c.args.den) = fits (at_most_sub zero c.requires.den_size) tt in
    let below : c.args.den <ℤ pos 0 = grind (arith, ints) in
    let e : quotient c.args.num c.args.den ≡ lowest (pos 0 +ℤ neg_ℤ c.args.num) (pos 0 +ℤ neg_ℤ c.args.den) = quotient-negative c.args.num c.args.den below in
    let x : IsSome c.reduce.result ↔ IsSmall (lowest (pos 0 +ℤ neg_ℤ c.args.num) (pos 0 +ℤ neg_ℤ c.args.den)) = simp to_z-of_z at c.reduce.ensures.exact in
    (λ s. (λ z. omega (arith, ints), subst IsSmall (sym e) (x.0 s)), λ h. x.1 (subst IsSmall e h.1))
