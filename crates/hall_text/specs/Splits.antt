-- A group by operations that stand for its matrices, and its operations with the matrix I. Words for private functions.
--   pure t s             the operation (I, t, s)
--   Undone gens p        a product undoes p
--   HasInverses gens     each operation of gens is undone by a product
--   IsSplit gens rs T    the operations rs stand for the matrices of the products, and T holds for the products (I, t, s)
--   Splits rs T o        o is one of rs and after it an (I, t, s) for which T holds
use Rattle.std.specs.Prelude.{◌≡◌, ⊤, suc, ◌≤◌, ◌^◌, List, ◌++◌, length}
use Rattle.ring.specs.Size.{AtMost}
use Rattle.lists.specs.Increasing.{IsMember, IsDistinct}
use Rattle.matrix3.specs.Matrices.{EachEntry}
use Rattle.crystal_spec.specs.declared.Sign.{Sign}
use Rattle.crystal_spec.specs.declared.Sign.TheVariants.{Same}
use Rattle.crystal_spec.specs.Matrices.{Triple, Matrix, image, identity, sum_of, difference}
use Rattle.crystal_spec.specs.Operations.{Operation, IsWithinCell}
use Rattle.positions.specs.Positions.{origin}
use Rattle.op_group.specs.Composition.{identity_operation}
use Rattle.hall_symbol.specs.Compositions.{both, reduced, then}
use Rattle.hall_text.specs.Products.{IsProduct, AreProducts, matrices_of, TooMany}
use Rattle.hall_symbol.specs.Views.{AreSmall}
use Rattle.hall_text.specs.declared.fault.ExpandError.{ExpandError}
use Rattle.hall_text.specs.declared.fault.ExpandError.TheVariants as errors

-- the operation with the matrix I
abbrev pub pure : Triple → Sign → Operation
pure t s = record { matrix = identity; translation = t; sign = s }

-- a product that undoes p
pub record Undone (gens : List Operation) (p : Operation) : Type 0 where
  pub undo : Operation
  pub product : IsProduct gens undo
  pub after : then undo p ≡ identity_operation

pub record HasInverses (gens : List Operation) : Type 0 where
  pub within : (g : Operation) → IsMember g gens → IsWithinCell 12 g.translation
  pub each : (g : Operation) → IsMember g gens → Undone gens g

-- Operations of a symbol: within one cell, with entries -1, 0 and 1, and undone by products.
pub record AreRotations (gens : List Operation) : Type 0 where
  pub within : (g : Operation) → IsMember g gens → IsWithinCell 12 g.translation
  pub small : AreSmall gens
  pub inverses : HasInverses gens

-- what first r and then x comes to is one of the operations and after it an (I, t, s): T is closed under adding it
pub record Step (rs : List Operation) (T : Triple → Sign → Type 0) (o : Operation) : Type 0 where
  pub rep : Operation
  pub member : IsMember rep rs
  pub matrix : o.matrix ≡ rep.matrix
  pub adds : (t : Triple) (s : Sign) → IsWithinCell 12 t → T t s → T (reduced (sum_of t (difference o.translation rep.translation))) (both s (both o.sign rep.sign))

pub record IsSplit (gens rs : List Operation) (T : Triple → Sign → Type 0) : Type 0 where
  pub rs_made : AreProducts gens rs
  pub pure_made : (t : Triple) (s : Sign) → IsWithinCell 12 t → T t s → IsProduct gens (pure t s)
  pub one : IsMember identity_operation rs
  pub zero : T origin Same
  pub step : (r x : Operation) → IsMember r rs → IsMember x gens → Step rs T (then r x)
  pub turns : (x : Operation) → IsMember x gens → (t : Triple) (s : Sign) → IsWithinCell 12 t → T t s → T (reduced (image x.matrix t)) s

pub record Splits (rs : List Operation) (T : Triple → Sign → Type 0) (o : Operation) : Type 0 where
  pub rep : Operation
  pub member : IsMember rep rs
  pub matrix : o.matrix ≡ rep.matrix
  pub pure_part : T (reduced (difference o.translation rep.translation)) (both o.sign rep.sign)

-- ---- lists that grow

-- ys begins with xs
pub record Starts {X : Type 0} (xs ys : List X) : Type 0 where
  pub more : List X
  pub is : ys ≡ xs ++ more

-- ---- operations that stand for the matrices of products

-- one of these has this matrix
pub record HasMatrix (os : List Operation) (w : Matrix) : Type 0 where
  pub op : Operation
  pub member : IsMember op os
  pub matrix : w ≡ op.matrix

-- products, at most 48, with different matrices, the identity among them; their entries are not large
pub record ArePartial (gens os : List Operation) : Type 0 where
  pub products : AreProducts gens os
  pub distinct : IsDistinct (matrices_of os)
  pub few : length os ≤ 48
  pub one : IsMember identity_operation os
  pub sized : (o : Operation) → IsMember o os → EachEntry (AtMost (3 ^ length os)) o.matrix

-- a product that may be added
pub record IsNext (gens os : List Operation) (o : Operation) : Type 0 where
  pub product : IsProduct gens o
  pub sized : EachEntry (AtMost (3 ^ suc (length os))) o.matrix

-- the list has grown at its end, and the matrix of o is there
pub record IsAdded (gens old new : List Operation) (o : Operation) : Type 0 where
  pub partial : ArePartial gens new
  pub starts : Starts old new
  pub found : HasMatrix new o.matrix

-- the matrix of each of gens after r is there
abbrev pub Meets : List Operation → Operation → List Operation → Type 0
Meets os r gens = (x : Operation) → IsMember x gens → HasMatrix os (then r x).matrix

-- the list has grown at its end, until it meets each of gens after r
pub record HasGrown (gens : List Operation) (r : Operation) (old new : List Operation) : Type 0 where
  pub partial : ArePartial gens new
  pub starts : Starts old new
  pub meets : Meets new r gens

-- such products, one for each matrix of a product
pub record StandForMatrices (gens os : List Operation) : Type 0 where
  pub partial : ArePartial gens os
  pub closed : (r : Operation) → IsMember r os → Meets os r gens

-- a refusal: there are too many matrices, or there is not enough memory
abbrev pub Refuses : List Operation → ExpandError → Type 0
Refuses gens errors.TooManyMatrices = TooMany gens
Refuses gens errors.Memory = ⊤
