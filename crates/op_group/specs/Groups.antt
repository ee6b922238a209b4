-- Lists of operations that are a group modulo whole cells.
--   IsGroupModulo n os   os has the identity, with each two operations the one after the other, and with each its inverse
use Rattle.std.specs.Prelude.{ℕ, List}
use Rattle.lists.specs.Increasing.{IsMember}
use Rattle.crystal_spec.specs.Operations.{Operation}
use Rattle.op_group.specs.Lists.{AllWithinCell}
use Rattle.op_group.specs.Composition.{identity_operation, IsComposed, IsInverseModulo}

-- translation parts are from 0 to n - 1; (I, 0, +1) is there, and so are compositions and inverses
pub record IsGroupModulo (n : ℕ) (os : List Operation) : Type 0 where
  pub within_cell : AllWithinCell n os
  pub identity : IsMember identity_operation os
  pub composed : (a b : Operation) → IsMember a os → IsMember b os → (r : Operation) × (IsMember r os × IsComposed n a b r)
  pub inverses : (a : Operation) → IsMember a os → (b : Operation) × (IsMember b os × IsInverseModulo n a b)
