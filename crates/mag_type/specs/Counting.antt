-- Words for the private functions alone, which count operations and pairs.
--   is_same s            whether the time sign is +1
--   unprimed o           the operation of the matrix and translation part of o that does not reverse time
--   IsFirstOfPair os o   no operation of the list with the pair of o comes before o: +1 comes before -1
use Rattle.std.specs.Prelude.{◌≡◌, Bool, true, false, List}
use Rattle.lists.specs.Increasing.{IsMember}
use Rattle.crystal_spec.specs.declared.Sign.{Sign}
use Rattle.crystal_spec.specs.declared.Sign.TheVariants.{Same, Reversed}
use Rattle.crystal_spec.specs.Operations.{Operation}

-- whether the time sign is +1
abbrev pub is_same : Sign → Bool
is_same Same = true
is_same Reversed = false

-- the operation of the same matrix and translation part that does not reverse time
abbrev pub unprimed : Operation → Operation
unprimed o = record { matrix = o.matrix; translation = o.translation; sign = Same }

-- where o reverses time, the list has not the same without time reversal
abbrev pub IsFirstOfPair : List Operation → Operation → Type 0
IsFirstOfPair os o = o.sign ≡ Reversed → ¬ (IsMember (unprimed o) os)
