-- The group of a symbol: all products of its operations, modulo whole translations.
--   product_of os            the operations of a list one after the other
--   IsProduct gens o         o is the product of a finite list of operations of gens, the empty list included
--   TooMany gens             49 products have 49 different matrices
--   IsGroupOf gens os        os has exactly the products
-- Translation parts are in units of 1/12, from 0 to 11; `then` is that of hall_symbol's `specs/Compositions`.
use Rattle.std.specs.Prelude.{◌≡◌, ◌↔◌, List, [], ◌∷◌, map, length}
use Rattle.lists.specs.Increasing.{IsMember, IsDistinct}
use Rattle.crystal_spec.specs.Matrices.{Matrix}
use Rattle.crystal_spec.specs.Operations.{Operation}
use Rattle.op_group.specs.Composition.{identity_operation}
use Rattle.hall_symbol.specs.Compositions.{then}

-- the first of the list first
abbrev pub product_of : List Operation → Operation
product_of [] = identity_operation
product_of (o ∷ os) = then o (product_of os)

-- each is one of these
abbrev pub AreAmong : List Operation → List Operation → Type 0
AreAmong gens [] = Unit {0}
AreAmong gens (o ∷ os) = IsMember o gens × AreAmong gens os

pub record IsProduct (gens : List Operation) (o : Operation) : Type 0 where
  pub factors : List Operation
  pub among : AreAmong gens factors
  pub is : o ≡ product_of factors

-- each member is a product
pub record AreProducts (gens os : List Operation) : Type 0 where
  pub each : (o : Operation) → IsMember o os → IsProduct gens o

abbrev pub matrices_of : List Operation → List Matrix
matrices_of os = map (λ o. o.matrix) os

pub record TooMany (gens : List Operation) : Type 0 where
  pub products : List Operation
  pub are : AreProducts gens products
  pub distinct : IsDistinct (matrices_of products)
  pub count : length products ≡ 49

-- exactly the products
pub record IsGroupOf (gens os : List Operation) : Type 0 where
  pub exact : (o : Operation) → IsMember o os ↔ IsProduct gens o
