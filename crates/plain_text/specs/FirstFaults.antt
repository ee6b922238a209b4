-- The first of some faults, in the order in which their rules are tried.
--   when b fault     the fault, where the test holds
--   or_else f g      f, or g where f is none
--   first_of faults  the first of the list
-- Our own.
use Rattle.std.specs.Prelude.{Bool, List, [], ◌∷◌, if◌then◌else◌}
use Rattle.std.specs.declared.option.Option.{Option}
use Rattle.std.specs.declared.option.Option.TheVariants.{Some, None}

-- the fault, where the test holds
abbrev pub when : {X : Type 0} → Bool → X → Option X
when b fault = if b then Some fault else None

-- the first of the two
abbrev pub or_else : {X : Type 0} → Option X → Option X → Option X
or_else (Some fault) other = Some fault
or_else None other = other

-- the first of the list
abbrev pub first_of : {X : Type 0} → List (Option X) → Option X
first_of [] = None
first_of (fault ∷ faults) = or_else fault (first_of faults)
