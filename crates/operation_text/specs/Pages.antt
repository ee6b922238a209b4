-- Pages of a list of operations.
--   page skip most xs       the elements behind the first `skip`, and of these at most `most` where that is given
--   page_text l skip most   the lines of the operations of a page
--   PagesResume             a page goes on where the one before it ends
--   PageIsWhole             the page from the start that has no end is the whole list
use Rattle.std.specs.Prelude.{◌≡◌, ℕ, ◌+◌, List, ◌++◌, take, drop}
use Rattle.std.specs.declared.option.Option.{Option}
use Rattle.std.specs.declared.option.Option.TheVariants.{Some, None}
use Rattle.op_group.specs.Lists.{OperationList}
use Rattle.operation_text.specs.OperationText.{lines_text, operations_text}

-- the elements behind the first `skip`, and of these at most `most` where that is given
abbrev pub page : {X : Type 0} → ℕ → Option ℕ → List X → List X
page skip None xs = drop skip xs
page skip (Some most) xs = take most (drop skip xs)

-- the lines of the operations of a page
abbrev pub page_text : OperationList → ℕ → Option ℕ → List ℕ
page_text l skip most = lines_text l.n (page skip most l.operations)

-- The page of `most` operations behind the first `skip`, followed by that of `more` behind the first `skip + most`, is the
-- page of `most + more` behind the first `skip`.
abbrev pub PagesResume : Type 0
PagesResume = (l : OperationList) (skip most more : ℕ) → page_text l skip (Some most) ++ page_text l (skip + most) (Some more) ≡ page_text l skip (Some (most + more))

-- the page from the start that has no end is the whole list
abbrev pub PageIsWhole : Type 0
PageIsWhole = (l : OperationList) → page_text l 0 None ≡ operations_text l
