-- When a call may fail. A device that fails counts it, so a failure without a cause can be told.
--   Rose highest before now              the count of faults went up
--   HasCause highest before now result   a call failed only where the count rose
--   is_end result                        a read saw the end of input
-- Each source and sink says itself whether its count has a highest number, at which it stays.
-- Our own.
use Rattle.std.specs.Prelude.{ℕ, ◌+◌, ◌<◌, ◌≤◌, min, Bool, false, OnErr, ◌==◌}
use Rattle.std.specs.declared.option.Option.{Option}
use Rattle.std.specs.declared.option.Option.TheVariants.{Some, None}
use Rattle.std.specs.declared.result.Result.{Result}
use Rattle.std.specs.declared.result.Result.TheVariants.{Ok, Err}

-- the count went up, or, where it has a highest number, stands there
abbrev pub Rose : Option ℕ → ℕ → ℕ → Type 0
Rose None before now = before < now
Rose (Some highest) before now = min (before + 1) highest ≤ now

-- the count of faults doesn't fall, and it rose where the call failed
pub record HasCause {T E : Type 0} (highest : Option ℕ) (before now : ℕ) (result : Result T E) : Type 0 where
  pub later : before ≤ now
  pub failed : OnErr result (Rose highest before now)

-- a read that gave no bytes saw the end of input
abbrev pub is_end : {E : Type 0} → Result ℕ E → Bool
is_end (Ok n) = n == 0
is_end (Err e) = false
