-- The family group and the maximal space subgroup of a magnetic space group [STT23], which a list of its operations gives,
-- with translation parts modulo whole cells; and how many things there are.
--   SpaceOperation      a matrix and a translation part in units of 1/n, without a time sign: (W, w)
--   IsInFamily os p     p is in the family group of the list: an operation of the list has this matrix and translation part
--   IsUnprimed os o     o is in the maximal space subgroup of the list: an operation of the list that does not reverse time
--   IsNumberOf holds k  so many things hold: a list with exactly these, each once, has the length k
use Rattle.std.specs.Prelude.{◌≡◌, ◌↔◌, ℕ, List, length}
use Rattle.lists.specs.Increasing.{IsMember, IsDistinct}
use Rattle.crystal_spec.specs.declared.Sign.{Sign}
use Rattle.crystal_spec.specs.declared.Sign.TheVariants.{Same}
use Rattle.crystal_spec.specs.Matrices.{Triple, Matrix}
use Rattle.crystal_spec.specs.Operations.{Operation}

-- an operation but for its time sign
pub record SpaceOperation : Type 0 where
  pub matrix : Matrix
  pub translation : Triple

-- with one time sign or the other it is an operation of the list
pub record IsInFamily (os : List Operation) (p : SpaceOperation) : Type 0 where
  pub sign : Sign
  pub of_list : IsMember (record { matrix = p.matrix; translation = p.translation; sign = sign }) os

-- it is an operation of the list, of sign +1
pub record IsUnprimed (os : List Operation) (o : Operation) : Type 0 where
  pub of_list : IsMember o os
  pub same : o.sign ≡ Same

-- so many things hold: the length of a list that has exactly these, each once
pub record IsNumberOf {X : Type 0} (holds : X → Type 0) (k : ℕ) : Type 0 where
  pub all : List X
  pub once : IsDistinct all
  pub exact : (x : X) → IsMember x all ↔ holds x
  pub count : length all ≡ k
