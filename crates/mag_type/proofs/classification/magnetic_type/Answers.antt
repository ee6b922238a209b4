use Rattle.std.proofs.Common.{List, refl, sym, subst, ◌∙◌}
use Rattle.crystal_spec.specs.Operations.{Operation}
use Rattle.mag_type.specs.MagneticTypes.{IsMagneticType, one, three}
use Rattle.mag_type.proofs.TypesFound.{type_one, type_three}
use Rattle.mag_type.proofs.classification.magnetic_type.Goals as goal

pub returns-then-none_reverses_time : goal.returns-then-none_reverses_time
returns-then-none_reverses_time c =
    subst (λ (os : List Operation). IsMagneticType os 1) c.ops-ops.ensures (one refl (type_one c.ops-ops.result.now (sym c.none_reverses_time.ensures ∙ c.if-none_reverses_time.true)))

pub returns-else-has_anti_translation : goal.returns-else-has_anti_translation
returns-else-has_anti_translation c =
    subst (λ (os : List Operation). IsMagneticType os 3) c.ops-ops.ensures
    (three refl (type_three c.ops-ops.result.now (sym c.none_reverses_time.ensures ∙ c.if-none_reverses_time.false) (λ h. let yes = c.has_anti_translation.ensures.1 h in absurd (cc (yes, c.if-has_anti_translation.false)))))
