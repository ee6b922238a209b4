-- What a store of named files says when a file is picked and read.
--   IsMissing files name             the store tells its files, and has none of this name
--   Begins files name left           what is left is all of the file of this name, where the store tells its files
--   HasPickCause highest name before after result   picking failed only where the count rose or the file is missing
--   Leaves files name taken left     the file of this name is what was taken and then what is left
--   FileFault                        the cause of each refusal
--   ReadsFile                        all bytes of a file, or why not
--   TakesAtMostOfFile                however it ended, no more than so many bytes of the file were taken
-- Our own.
use Rattle.std.specs.Prelude.{◌≡◌, ℕ, ◌+◌, ◌≤◌, true, false, List, ◌++◌, length, MatchResult, OnErr, ◌⊎◌, ⊤, IsSome}
use Rattle.std.specs.Io.KnownBytes.{IsAtEnd}
use Rattle.std.specs.declared.option.Option.{Option}
use Rattle.std.specs.declared.option.Option.TheVariants.{Some, None}
use Rattle.std.specs.declared.result.Result.{Result}
use Rattle.io_edge.specs.Causes.{Rose}
use Rattle.io_edge.specs.States.{Files, ShelfState}
use Rattle.io_edge.specs.declared.source.InFault.{InFault}
use Rattle.io_edge.specs.declared.source.InFault.TheVariants.{ReadFault, TooLong, Memory}

-- the store tells its files, and has none of this name
abbrev pub IsMissing : Option Files → List ℕ → Type 0
IsMissing None name = ⊥
IsMissing (Some files) name = files name ≡ None

-- where the store tells its files, there is one of this name, and all of it is left
abbrev pub Begins : Option Files → List ℕ → Option (List ℕ) → Type 0
Begins None name left = ⊤
Begins (Some files) name left = IsSome left × (files name ≡ left)

-- the count of faults doesn't fall, and where picking the file failed, it rose or the file is missing
pub record HasPickCause {T E : Type 0} (highest : Option ℕ) (name : List ℕ) (before after : ShelfState) (result : Result T E) : Type 0 where
  pub later : before.picked.faults ≤ after.picked.faults
  pub failed : OnErr result (Rose highest before.picked.faults after.picked.faults ⊎ IsMissing before.files name)

-- where the store tells its files, the file of this name is what was taken, and then what is left
abbrev pub Leaves : Option Files → List ℕ → List ℕ → Option (List ℕ) → Type 0
Leaves None name taken left = ⊤
Leaves (Some files) name taken None = ⊥
Leaves (Some files) name taken (Some left) = files name ≡ Some (taken ++ left)

-- Why a file was not read: the store failed, or tells that it has none of this name; or one byte past the limit came before
-- an end or a fault; and in these cases no end is seen; or memory was wanted.
abbrev pub FileFault : Option ℕ → ℕ → List ℕ → ShelfState → ShelfState → InFault → Type 0
FileFault highest limit name before after ReadFault =
    (Rose highest before.picked.faults after.picked.faults ⊎ IsMissing before.files name) × (after.picked.end_is_seen ≡ false)
FileFault highest limit name before after TooLong =
    ((taken : List ℕ) × Leaves before.files name taken after.picked.left × (length taken ≡ limit + 1)) × (after.picked.end_is_seen ≡ false)
FileFault highest limit name before after Memory = ⊤

-- At Ok the result is the whole file of this name, within the limit, nothing of it is left, and the end is seen. A refusal
-- has its cause. The count of faults has this highest number.
abbrev pub ReadsFile : Option ℕ → ℕ → List ℕ → ShelfState → ShelfState → Result (List ℕ) InFault → Type 0
ReadsFile highest limit name before after result = MatchResult result
    (λ bytes. Leaves before.files name bytes after.picked.left × IsAtEnd after.picked.left × (length bytes ≤ limit) × (after.picked.end_is_seen ≡ true))
    (λ fault. FileFault highest limit name before after fault)

-- where a file is picked now, no more than so many of its bytes were taken
abbrev pub TakesAtMostOfFile : ℕ → List ℕ → ShelfState → ShelfState → Type 0
TakesAtMostOfFile most name before after =
    after.is_picked ≡ true → (taken : List ℕ) × Leaves before.files name taken after.picked.left × (length taken ≤ most)
