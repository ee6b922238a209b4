use Rattle.std.proofs.Common.{◌≡◌, ◌^◌, ℤ, pos, sym, subst, ap₂, ◌∙◌, to_z-of_z}
use Rattle.ring.specs.Size.{AtMost}
use Rattle.ring.proofs.Sizes.{fits}
use Rattle.numbers.specs.Fraction.{quotient}
use Rattle.exact_num.specs.Small.{IsSmall}
use Rattle.group_match.proofs.Fractions.{small_quotient, den_nonzero}
use Rattle.group_match.proofs.origin.fraction.Goals as goal

pub unwrap-requires : goal.unwrap-requires
unwrap-requires c =
    let num = to_z-of_z (fits (subst (λ (z : ℤ). AtMost (10 ^ 36) z) (sym c.get.ensures.value) c.get.ensures.size) tt) ∙ c.get.ensures.value in
    let den = to_z-of_z (fits (subst (λ (z : ℤ). AtMost (10 ^ 36) z) (sym c.get-2.ensures.value) c.get-2.ensures.size) tt) ∙ c.get-2.ensures.value in
    c.new.ensures.exact.1 (subst (λ (z : ℤ). z ≡ pos 0 → ⊥) (sym den) (den_nonzero c.args.num c.args.den c.requires.num c.requires.below), subst IsSmall (sym (ap₂ quotient num den)) (small_quotient c.args.num c.args.den c.requires.num c.requires.below c.requires.den))
