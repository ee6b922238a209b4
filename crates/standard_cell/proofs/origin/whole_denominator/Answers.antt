use Rattle.std.proofs.Common.{◌≡◌, ◌<ℤ◌, ℤ, pos, sym, subst, ◌∙◌, to_z, of_z, to_z-of_z}
use mir.Syntax.{w128}
use Rattle.ring.proofs.Sizes.{fits}
use Rattle.group_match.proofs.Outcomes.{of_some}
use Rattle.standard_cell.proofs.origin.whole_denominator.Goals as goal

pub returns : goal.returns
returns c =
    let is : c.unwrap.result ≡ c.den.result = of_some (λ (r : ℤ). r ≡ to_z w128 (of_z w128 c.den.result)) c.new.result c.unwrap.result c.new.ensures.value c.unwrap.ensures ∙ to_z-of_z (fits c.den.ensures.size tt) in
    record { value = is ∙ c.den.ensures.value; positive = subst (λ (z : ℤ). pos 0 <ℤ z) (sym is) c.den.ensures.positive }
