-- The definitions at their cases: which signs are wanted, and which list that is.
use Rattle.std.proofs.Common.{◌≡◌, List, Bool, true, false, refl}
use Rattle.crystal_spec.specs.declared.Sign.TheVariants.{Same, Reversed}
use Rattle.crystal_spec.specs.Crystals.{Structure}
use Rattle.crystal_spec.specs.Operations.{Operation, ListsAll, ListsAllSame}
use Rattle.mag_ops.specs.Groups.{ListsGroup, IsWanted, signs}

-- without time reversal the sign -1 is not wanted, and with it both are
reversed_is_not_wanted : IsWanted false Reversed → ⊥
reversed_is_not_wanted w = cc w

same_is_wanted : (time : Bool) → IsWanted time Same
same_is_wanted time = tt

reversed_is_wanted : IsWanted true Reversed
reversed_is_wanted = refl

sign_counts : (signs true ≡ 2) × (signs false ≡ 1)
sign_counts = (refl, refl)

-- and so are the lists
all_with_time : (c : Structure) (os : List Operation) → ListsAll c os → ListsGroup c true os
all_with_time c os all = all

same_without_time : (c : Structure) (os : List Operation) → ListsAllSame c os → ListsGroup c false os
same_without_time c os same = same
