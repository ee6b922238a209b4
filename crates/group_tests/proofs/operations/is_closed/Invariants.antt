use Rattle.std.proofs.Common.{◌≡◌, ◌⊎◌, drop}
use Rattle.lists.specs.Increasing.{IsMember}
use Rattle.crystal_spec.specs.Matrices.{Triple, sum_of}
use Rattle.crystal_spec.specs.Operations.{Operation}
use Rattle.positions.specs.Positions.{modulo}
use Rattle.basis_spec.specs.Translations.{pure_translation}
use Rattle.group_tests.proofs.operations.is_closed.Given as goal

-- the sums of those that are not still to come are members
abbrev pub invariant-loop-i : goal.invariant-loop-i
invariant-loop-i l =
    (o : Operation) → IsMember o l.list.operations → IsMember o (drop l.i l.list.operations) ⊎ (o ≡ pure_translation o.translation → (u : Triple) → IsMember (pure_translation u) l.list.operations → IsMember (pure_translation (modulo l.list.n (sum_of o.translation u))) l.list.operations)
