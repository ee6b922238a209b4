use Rattle.std.proofs.Common.{◌≡◌, ◌^◌, ℤ, sym, subst, ◌∙◌, to_z, of_z, to_z-of_z}
use mir.Syntax.{w128}
use Rattle.ring.specs.Size.{AtMost}
use Rattle.ring.proofs.Sizes.{fits}
use Rattle.group_match.proofs.Outcomes.{of_some}
use Rattle.standard_cell.proofs.origin.whole_numerator.Goals as goal

pub returns : goal.returns
returns c =
    let is : c.unwrap.result ≡ c.num.result = of_some (λ (r : ℤ). r ≡ to_z w128 (of_z w128 c.num.result)) c.new.result c.unwrap.result c.new.ensures.value c.unwrap.ensures ∙ to_z-of_z (fits c.num.ensures.size tt) in
    record { value = is ∙ c.num.ensures.value; size = subst (AtMost (10 ^ 24)) (sym is) c.num.ensures.size }
