-- Strictly increasing lists, and their members.
--   IsIncreasing cmp xs   each element is below all later ones
--   IsMember x xs         x is an element
--   IsDistinct xs         no element stands twice
--   inserted cmp x xs     xs with x at its place; xs itself where x is there
use Rattle.std.specs.Prelude.{◌≡◌, ◌⊎◌, List, [], ◌∷◌}
use Rattle.std.specs.declared.cmp.Ordering.{Ordering}
use Rattle.std.specs.declared.cmp.Ordering.TheVariants.{Less, Equal, Greater}

-- x is below each of a list
abbrev pub IsBelowAll : {X : Type 0} → (X → X → Ordering) → X → List X → Type 0
IsBelowAll cmp x [] = Unit {0}
IsBelowAll cmp x (y ∷ ys) = (cmp x y ≡ Less) × IsBelowAll cmp x ys

abbrev pub IsIncreasing : {X : Type 0} → (X → X → Ordering) → List X → Type 0
IsIncreasing cmp [] = Unit {0}
IsIncreasing cmp (x ∷ xs) = IsBelowAll cmp x xs × IsIncreasing cmp xs

abbrev pub IsMember : {X : Type 0} → X → List X → Type 0
IsMember x [] = ⊥
IsMember x (y ∷ ys) = (x ≡ y) ⊎ IsMember x ys

abbrev pub IsDistinct : {X : Type 0} → List X → Type 0
IsDistinct [] = Unit {0}
IsDistinct (x ∷ xs) = (IsMember x xs → ⊥) × IsDistinct xs

abbrev pub inserted : {X : Type 0} → (X → X → Ordering) → X → List X → List X
inserted cmp x [] = x ∷ []
inserted cmp x (y ∷ ys) = elim (cmp x y) [ Less ↦ x ∷ y ∷ ys | Equal ↦ y ∷ ys | Greater ↦ y ∷ inserted cmp x ys ]
