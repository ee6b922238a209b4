-- That a property holds somewhere: of an element of a list, or of a number below a bound.
--   AnyOf xs P     P holds of an element of xs
--   AnyBelow k P   P holds of a number below k
use Rattle.std.specs.Prelude.{ℕ, ◌<◌, List}
use Rattle.lists.specs.Increasing.{IsMember}

-- an element of the list has the property
pub record AnyOf {X : Type 0} (xs : List X) (P : X → Type 0) : Type 0 where
  pub x : X
  pub of_list : IsMember x xs
  pub holds : P x

-- a number below k has it
pub record AnyBelow (k : ℕ) (P : ℕ → Type 0) : Type 0 where
  pub number : ℕ
  pub below : number < k
  pub holds : P number
