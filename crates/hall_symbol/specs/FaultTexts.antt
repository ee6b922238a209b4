-- The texts of the faults of a symbol.
--   numbered_text front n back   the number n in decimal digits between two texts
--   text_of t                    the pieces of a text, one after the other
--   fault_text f                 the text of a fault
-- Our own. The texts themselves are constants of `src/texts.rt`.
use Rattle.std.specs.Prelude.{ℕ, List, [], ◌++◌, decimal}
use Rattle.std.specs.declared.option.Option.{Option}
use Rattle.std.specs.declared.option.Option.TheVariants.{Some, None}
use Rattle.hall_symbol.specs.declared.fault.FaultText.{FaultText}
use Rattle.hall_symbol.specs.declared.fault.HallFault.{HallFault}
use Rattle.hall_symbol.specs.declared.fault.HallFault.TheVariants.{Empty, BadLattice, BadToken, NoAxis, BadScrew, TooManyTokens, BadShift}
use Rattle.hall_symbol.specs.declared.texts.TheConstants.{EMPTY, BAD_LATTICE, TOKEN, BAD_TOKEN, NO_AXIS, BAD_SCREW, TOO_MANY_TOKENS, BAD_SHIFT}

-- the number between two texts
abbrev pub numbered_text : List ℕ → ℕ → List ℕ → List ℕ
numbered_text front n back = front ++ decimal n ++ back

-- the number in decimal digits, nothing where there is none
abbrev pub digits_of : Option ℕ → List ℕ
digits_of None = []
digits_of (Some n) = decimal n

-- the pieces, one after the other
abbrev pub text_of : FaultText → List ℕ
text_of t = t.front.now ++ digits_of t.number ++ t.back.now

abbrev pub fault_text : HallFault → List ℕ
fault_text Empty = EMPTY.now
fault_text BadLattice = BAD_LATTICE.now
fault_text (BadToken t) = numbered_text TOKEN.now t BAD_TOKEN.now
fault_text (NoAxis t) = numbered_text TOKEN.now t NO_AXIS.now
fault_text (BadScrew t) = numbered_text TOKEN.now t BAD_SCREW.now
fault_text TooManyTokens = TOO_MANY_TOKENS.now
fault_text BadShift = BAD_SHIFT.now
