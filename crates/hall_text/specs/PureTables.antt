-- Tables of the operations (I, t, s) modulo whole translations, with t in units of 1/12: there are 3,456 of them. Words for
-- private functions.
--   place_of t s        the place of (I, t, s) in a table
--   Has flags t s       the table has (I, t, s)
--   PureTable           a table, and the operations that it has in the order in which they came
--   IsPureTable t       they belong together
--   IsClosed ..         the table is closed under adding the steps and under the operations gens
use Rattle.std.specs.Prelude.{◌≡◌, ◌⊎◌, ℕ, ◌+◌, ◌*◌, Bool, true, false, List, length, get_or, unsigned_abs}
use Rattle.lists.specs.Increasing.{IsMember, IsDistinct}
use Rattle.crystal_spec.specs.declared.Sign.{Sign}
use Rattle.crystal_spec.specs.declared.Sign.TheVariants.{Same, Reversed}
use Rattle.crystal_spec.specs.Matrices.{Triple, image, sum_of, difference}
use Rattle.crystal_spec.specs.Operations.{Operation, IsWithinCell}
use Rattle.positions.specs.Positions.{origin, triple_of}
use Rattle.hall_text.specs.declared.pures.Pure.{Pure}
use Rattle.hall_symbol.specs.Compositions.{both, reduced, then}
use Rattle.hall_text.specs.Products.{IsProduct, AreProducts}
use Rattle.hall_text.specs.Splits.{pure, Starts}

-- the operation (I, t, s)
abbrev pub pure_of : Pure → Operation
pure_of p = pure (triple_of p.shift) p.sign

abbrev pub sign_place : Sign → ℕ
sign_place Same = 0
sign_place Reversed = 1

-- by the three coordinates and the sign
abbrev pub place_of : Triple → Sign → ℕ
place_of t s = ((unsigned_abs t.x * 12 + unsigned_abs t.y) * 12 + unsigned_abs t.z) * 2 + sign_place s

abbrev pub Has : List Bool → Triple → Sign → Type 0
Has flags t s = get_or flags (place_of t s) false ≡ true

pub record PureTable : Type 0 where
  pub flags : List Bool
  pub found : List Operation

-- an operation of a table
pub record IsListed (flags : List Bool) (o : Operation) : Type 0 where
  pub within : IsWithinCell 12 o.translation
  pub is_pure : o ≡ pure o.translation o.sign
  pub flagged : Has flags o.translation o.sign

pub record IsPureTable (t : PureTable) : Type 0 where
  pub size : length t.flags ≡ 3456
  pub listed : (v : Triple) (s : Sign) → IsWithinCell 12 v → Has t.flags v s → IsMember (pure v s) t.found
  pub flagged : (o : Operation) → IsMember o t.found → IsListed t.flags o
  pub distinct : IsDistinct t.found

-- the table has none
pub record IsEmptyTable (t : PureTable) : Type 0 where
  pub none : (v : Triple) (s : Sign) → Has t.flags v s → ⊥

-- the table has this one now, beside those that it had
pub record IsPut (old new : PureTable) (o : Operation) : Type 0 where
  pub keeps : (v : Triple) (s : Sign) → Has old.flags v s → Has new.flags v s
  pub flagged : Has new.flags o.translation o.sign
  pub only : (v : Triple) (s : Sign) → IsWithinCell 12 v → Has new.flags v s → Has old.flags v s ⊎ (pure v s ≡ o)
  pub starts : Starts old.found new.found

-- all of the table are products
pub record AreMade (gens : List Operation) (t : PureTable) : Type 0 where
  pub each : (v : Triple) (s : Sign) → IsWithinCell 12 v → Has t.flags v s → IsProduct gens (pure v s)

-- the table has grown
pub record IsMore (old new : PureTable) : Type 0 where
  pub keeps : (v : Triple) (s : Sign) → Has old.flags v s → Has new.flags v s
  pub starts : Starts old.found new.found

-- operations within one cell
pub record AreWithin (os : List Operation) : Type 0 where
  pub each : (o : Operation) → IsMember o os → IsWithinCell 12 o.translation

-- the sum of two
abbrev pub sum_with : Operation → Operation → Operation
sum_with o d = pure (reduced (sum_of o.translation d.translation)) (both o.sign d.sign)

-- carried by an operation
abbrev pub carried_by : Operation → Operation → Operation
carried_by o x = pure (reduced (image x.matrix o.translation)) o.sign

-- the table has the sums of o with each of the steps
abbrev pub HasSums : PureTable → Operation → List Operation → Type 0
HasSums t o steps = (d : Operation) → IsMember d steps → Has t.flags (sum_with o d).translation (sum_with o d).sign

-- the table has o carried by each of gens
abbrev pub HasCarried : PureTable → Operation → List Operation → Type 0
HasCarried t o gens = (x : Operation) → IsMember x gens → Has t.flags (carried_by o x).translation (carried_by o x).sign

-- the table has (I, 0, +1), and with each one its sums with the steps, and what gens carry it to
pub record IsClosed (steps gens : List Operation) (t : PureTable) : Type 0 where
  pub zero : Has t.flags origin Same
  pub sums : (v : Triple) (s : Sign) → IsWithinCell 12 v → Has t.flags v s → HasSums t (pure v s) steps
  pub carried : (v : Triple) (s : Sign) → IsWithinCell 12 v → Has t.flags v s → HasCarried t (pure v s) gens

-- what r and after it x comes to is one of the operations and after it one of the steps
pub record IsStep (os steps : List Operation) (o : Operation) : Type 0 where
  pub rep : Operation
  pub member : IsMember rep os
  pub matrix : o.matrix ≡ rep.matrix
  pub step : IsMember (pure (reduced (difference o.translation rep.translation)) (both o.sign rep.sign)) steps

-- for each of rs, and each of gens after it
pub record HaveSteps (os steps rs gens : List Operation) : Type 0 where
  pub made : AreProducts gens steps
  pub each : (r x : Operation) → IsMember r rs → IsMember x gens → IsStep os steps (then r x)

-- the steps have grown by those of r and each of `seen` after it, all of them products of gens
pub record HasDifferences (os gens : List Operation) (r : Operation) (seen old new : List Operation) : Type 0 where
  pub starts : Starts old new
  pub made : AreProducts gens old → AreProducts gens new
  pub each : (x : Operation) → IsMember x seen → IsStep os new (then r x)
