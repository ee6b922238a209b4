-- The list of the cell is all of its group, as the list of the primitive cell is of that: with time reversal or without.
use Rattle.std.proofs.Common.{Bool, true, false, List, inl, inr, ◌⊎◌}
use Rattle.crystal_spec.specs.Crystals.{Structure}
use Rattle.crystal_spec.specs.Operations.{Operation, ListsAll, ListsAllSame}
use Rattle.mag_ops.specs.Groups.{ListsGroup}

-- all operations, or all that do not reverse time
pub all_or_same : (time : Bool) (c : Structure) (os : List Operation) → ListsGroup c time os → ListsAll c os ⊎ ListsAllSame c os
all_or_same true c os h = inl h
all_or_same false c os h = inr h

-- by cases on whether time may be reversed
pub group_carried : (time : Bool) (c c' : Structure) (os found : List Operation) → (ListsAll c' os → ListsAll c found) → (ListsAllSame c' os → ListsAllSame c found) → ListsGroup c' time os → ListsGroup c time found
group_carried true c c' os found all same h = all h
group_carried false c c' os found all same h = same h
