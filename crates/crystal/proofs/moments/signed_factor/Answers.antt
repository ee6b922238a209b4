use Rattle.std.proofs.Common.{ap, sym, ◌∙◌}
use Rattle.std.specs.Prelude.{◌*ℤ◌}
use Rattle.ring.proofs.IntRing.{one-*ℤ}
use Rattle.crystal_spec.specs.declared.Sign.{Sign}
use Rattle.crystal_spec.specs.Matrices.{determinant}
use Rattle.crystal_spec.specs.Moments.{axial_factor}
use Rattle.crystal_spec.specs.Operations.{sign_factor}
use Rattle.crystal.proofs.moments.signed_factor.Goals as goal

pub returns-in-Same : goal.returns-in-Same
returns-in-Same c =
    let factor = axial_factor c.args.kind (determinant c.args.w.now) in
    c.axial_factor-factor.ensures ∙ sym (ap (λ (s : Sign). sign_factor s *ℤ factor) c.in-Same.is ∙ one-*ℤ factor)
