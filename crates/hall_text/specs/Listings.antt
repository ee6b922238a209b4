-- Lists of the operations that a table has after others. Words for private functions.
--   after r p               the operation with the matrix of r, whose translation part and sign are those of r and p together
--   IsAfter t r o           o is r and an (I, t, s) of the table together
--   HasListed t r a b       the list b has, beside those of a, exactly these
--   IsListing t rs os       the list has exactly those of each of rs
use Rattle.std.specs.Prelude.{◌≡◌, ◌↔◌, ◌⊎◌, List}
use Rattle.lists.specs.Increasing.{IsMember}
use Rattle.crystal_spec.specs.Matrices.{sum_of, difference}
use Rattle.crystal_spec.specs.Operations.{Operation, IsWithinCell}
use Rattle.hall_symbol.specs.Compositions.{both, reduced}
use Rattle.hall_text.specs.PureTables.{PureTable, Has}

abbrev pub after : Operation → Operation → Operation
after r p = record { matrix = r.matrix; translation = reduced (sum_of r.translation p.translation); sign = both r.sign p.sign }

pub record IsAfter (t : PureTable) (r : Operation) (o : Operation) : Type 0 where
  pub within : IsWithinCell 12 o.translation
  pub matrix : o.matrix ≡ r.matrix
  pub has : Has t.flags (reduced (difference o.translation r.translation)) (both o.sign r.sign)

pub record HasListed (t : PureTable) (r : Operation) (old new : List Operation) : Type 0 where
  pub exact : (o : Operation) → IsMember o new ↔ (IsMember o old ⊎ IsAfter t r o)

pub record IsListing (t : PureTable) (rs os : List Operation) : Type 0 where
  pub exact : (o : Operation) → IsMember o os ↔ ((r : Operation) × (IsMember r rs × IsAfter t r o))
