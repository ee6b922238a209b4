use Rattle.std.proofs.Common.{◌≡◌, ◌^◌, ℤ, ◌*ℤ◌, sym, ap, ◌∙◌}
use Rattle.ring.proofs.Sizes.{at_most_mul}
use Rattle.exact_num.specs.Meanings.{fraction_of}
use Rattle.group_match.proofs.Outcomes.{of_some}
use Rattle.standard_cell.proofs.LimitLemmas.{not_zero, swapped}
use Rattle.standard_cell.proofs.ShareLemmas.{share_small, share_is}
use Rattle.standard_cell.proofs.origin.numerator.Goals as goal

pub unwrap-share-requires : goal.unwrap-share-requires
unwrap-share-requires c =
    let d = (fraction_of c.args.f.now).denominator in
    let e = c.whole_denominator.ensures.value in
    c.div_exact.ensures.exact.1 (not_zero c.whole_denominator.result c.whole_denominator.ensures.positive, (c.requires.divides.0, ap (λ (z : ℤ). c.requires.divides.0 *ℤ z) e ∙ swapped c.requires.divides.0 d ∙ sym c.requires.divides.1))

pub mul-requires : goal.mul-requires
mul-requires c =
    let share = of_some (λ (r : ℤ). r *ℤ c.whole_denominator.result ≡ c.args.parts) c.div_exact.result c.unwrap-share.result c.div_exact.ensures.value c.unwrap-share.ensures in
    at_most_mul c.whole_numerator.ensures.size (share_small (10 ^ 12) c.unwrap-share.result c.whole_denominator.result c.args.parts c.whole_denominator.ensures.positive share c.requires.size)

pub returns : goal.returns
returns c =
    let d = (fraction_of c.args.f.now).denominator in
    let num = (fraction_of c.args.f.now).numerator in
    let share = of_some (λ (r : ℤ). r *ℤ c.whole_denominator.result ≡ c.args.parts) c.div_exact.result c.unwrap-share.result c.div_exact.ensures.value c.unwrap-share.ensures in
    let whole : c.unwrap-share.result *ℤ d ≡ c.args.parts = ap (λ (z : ℤ). c.unwrap-share.result *ℤ z) (sym c.whole_denominator.ensures.value) ∙ share in
    ap (λ (z : ℤ). z *ℤ d) (c.mul.ensures ∙ ap (λ (z : ℤ). z *ℤ c.unwrap-share.result) c.whole_numerator.ensures.value) ∙ share_is num c.unwrap-share.result d c.args.parts whole
