-- Rotation tokens [Hal81; ITVB A1.4.2.3].
--   token_fault before w   the first fault of the word as a token behind these ones, or none
--   token_in before w      the token that it spells behind these ones
-- Tokens are counted from 1, and a symbol has at most five.
use Rattle.std.specs.Prelude.{ℕ, ◌+◌, not, ◌==◌, List, [], ◌∷◌, length}
use Rattle.std.specs.declared.option.Option.{Option}
use Rattle.std.specs.declared.option.Option.TheVariants.{Some, None}
use Rattle.plain_text.specs.FirstFaults.{when, first_of}
use Rattle.hall_symbol.specs.declared.fault.HallFault.{HallFault}
use Rattle.hall_symbol.specs.declared.fault.HallFault.TheVariants.{BadToken, NoAxis, BadScrew, TooManyTokens}
use Rattle.hall_symbol.specs.declared.symbol.Token.{Token}
use Rattle.hall_symbol.specs.Cuts.{begins}
use Rattle.hall_symbol.specs.TokenForms.{screw_in, letters_in, sign_in, is_token_form}
use Rattle.hall_symbol.specs.Rotations.{rotation_in, found_rotation, is_screw_right}
use Rattle.hall_symbol.specs.Translations.{plus, letters_translation, screw_translation}

-- the faults of a token, in their order; it is the one behind these
unfoldable pub token_fault : List Token → List ℕ → Option HallFault
token_fault before w = first_of
    (when (length before == 5) TooManyTokens
    ∷ when (not (is_token_form w)) (BadToken (length before + 1))
    ∷ (elim (rotation_in before w) [ None ↦ Some (NoAxis (length before + 1)) | Some rotation ↦ None ])
    ∷ when (not (is_screw_right before w)) (BadScrew (length before + 1))
    ∷ [])

unfoldable pub token_in : List Token → List ℕ → Token
token_in before w =
    let rotation = found_rotation (rotation_in before w) in
    record {
      is_negated = begins 45 w;
      rotation = rotation;
      translation = plus (screw_translation rotation (screw_in w)) (letters_translation (letters_in w));
      sign = sign_in w;
    }
