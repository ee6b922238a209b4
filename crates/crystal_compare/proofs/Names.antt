-- A name tells the species.
use Rattle.std.proofs.Common.{◌≡◌, ℕ, List, ap, ◌∙◌}
use Rattle.std.specs.Prelude.{Some}
use Rattle.lists.specs.Increasing.{IsDistinct}
use Rattle.lists.proofs.Members.{same_at}
use Rattle.lists.proofs.Distinct.{one_place}
use Rattle.crystal_spec.specs.Crystals.{Structure}
use Rattle.crystal_compare.specs.Maps.{HaveOneName}

-- two species of the second crystal with the name of one of the first are one
pub same_second : (c c' : Structure) (s r r' : ℕ) → IsDistinct c'.names → HaveOneName c c' s r → HaveOneName c c' s r' → r ≡ r'
same_second c c' s r r' d h k = one_place c'.names r r' h.name d h.second (k.second ∙ ap (λ (n : List ℕ). Some n) (same_at c.names s k.name h.name k.first h.first))

-- and the other way round
pub same_first : (c c' : Structure) (s s' r : ℕ) → IsDistinct c.names → HaveOneName c c' s r → HaveOneName c c' s' r → s ≡ s'
same_first c c' s s' r d h k = one_place c.names s s' h.name d h.first (k.first ∙ ap (λ (n : List ℕ). Some n) (same_at c'.names r k.name h.name k.second h.second))
