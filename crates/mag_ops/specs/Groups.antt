-- The list of all symmetry operations, with or without time reversal.
--   ListsGroup c time os   os is the strictly increasing list of exactly the symmetry operations of c: of all where time may
--                          be reversed, and otherwise of those of sign +1
--   IsWanted time s        the sign s is +1, or time may be reversed
--   signs time             how many signs are wanted: 2 where time may be reversed, and otherwise 1
use Rattle.std.specs.Prelude.{ℕ, Bool, true, false, List, IsTrue}
use Rattle.crystal_spec.specs.declared.Sign.{Sign}
use Rattle.crystal_spec.specs.declared.Sign.TheVariants.{Same, Reversed}
use Rattle.crystal_spec.specs.Crystals.{Structure}
use Rattle.crystal_spec.specs.Operations.{Operation, ListsAll, ListsAllSame}

-- where time may be reversed all operations, otherwise those that do not reverse it
abbrev pub ListsGroup : Structure → Bool → List Operation → Type 0
ListsGroup c true os = ListsAll c os
ListsGroup c false os = ListsAllSame c os

-- +1 always, and -1 where time may be reversed
abbrev pub IsWanted : Bool → Sign → Type 0
IsWanted time Same = Unit {0}
IsWanted time Reversed = IsTrue time

-- both signs, or +1 alone
abbrev pub signs : Bool → ℕ
signs true = 2
signs false = 1
