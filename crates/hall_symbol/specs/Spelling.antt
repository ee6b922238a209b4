-- Which texts spell a Hall symbol, and the first fault of the others.
--   tokens_text text   what stands behind the first word, in front of the first `(`
--   shift_text text    what stands behind the first word, from the first `(` on
--   is_shift_form s    `(i j k)` and spaces, or nothing
--   symbol_fault text  the first fault from the left
--   symbol_of text     the symbol of a text without fault
--   Spells text s      the text has no fault, and s is its symbol
-- Words stand between spaces. A token ends in front of a space or of `(`, the first word only in front of a space.
-- The byte 40 is `(`, 41 is `)` and 45 is `-`.
use Rattle.std.specs.Prelude.{◌≡◌, ℕ, ◌-◌, ◌%◌, Bool, not, ◌==◌, ◌||◌, ◌&&◌, nat_le, List, [], ◌∷◌, ◌++◌, length, drop, get_or, if◌then◌else◌}
use Rattle.std.specs.List.{list_all}
use Rattle.std.specs.declared.option.Option.{Option}
use Rattle.std.specs.declared.option.Option.TheVariants.{Some, None}
use Rattle.matrix3.specs.declared.vector.Vec3.{Vec3}
use Rattle.plain_text.specs.Text.{words_between_spaces}
use Rattle.plain_text.specs.Digits.{is_digits, value_of_digits}
use Rattle.plain_text.specs.FirstFaults.{when, first_of}
use Rattle.hall_symbol.specs.declared.fault.HallFault.{HallFault}
use Rattle.hall_symbol.specs.declared.fault.HallFault.TheVariants.{Empty, BadLattice, BadToken, BadShift}
use Rattle.hall_symbol.specs.declared.symbol.Lattice.{Lattice}
use Rattle.hall_symbol.specs.declared.symbol.Lattice.TheVariants.{P}
use Rattle.hall_symbol.specs.declared.symbol.Token.{Token}
use Rattle.hall_symbol.specs.Cuts.{skip_spaces, before_byte, from_byte, begins, without, first_word, behind_first_word}
use Rattle.hall_symbol.specs.Symbols.{HallSymbol}
use Rattle.hall_symbol.specs.TokenForms.{lattice_of}
use Rattle.hall_symbol.specs.Translations.{parts}
use Rattle.hall_symbol.specs.Tokens.{token_fault, token_in}

-- ---- the parts of the text

abbrev pub tokens_text : List ℕ → List ℕ
tokens_text text = before_byte 40 (behind_first_word text)

abbrev pub shift_text : List ℕ → List ℕ
shift_text text = from_byte 40 (behind_first_word text)

-- ---- the tokens

-- The first fault of these words as tokens behind those before; there must be a token.
abbrev pub tokens_fault : List Token → List (List ℕ) → Option HallFault
tokens_fault before [] = when (length before == 0) (BadToken 1)
tokens_fault before (w ∷ later) = elim (token_fault before w) [
  | Some fault ↦ Some fault
  | None ↦ tokens_fault (before ++ token_in before w ∷ []) later
]

-- the tokens that these words spell behind those before
abbrev pub tokens_in : List Token → List (List ℕ) → List Token
tokens_in before [] = before
tokens_in before (w ∷ later) = tokens_in (before ++ token_in before w ∷ []) later

-- ---- the shift

-- one or two digits
abbrev pub is_decimal : List ℕ → Bool
is_decimal w = is_digits w && nat_le (length w) 2

-- an optional `-` and one or two digits
abbrev pub is_shift_number : List ℕ → Bool
is_shift_number w = is_decimal (without 45 w)

-- the number modulo 12: it is in twelfths, and whole translations do not matter
abbrev pub shift_number : List ℕ → ℕ
shift_number w = if begins 45 w then (12 - value_of_digits (without 45 w) % 12) % 12 else value_of_digits (without 45 w) % 12

-- what stands between the brackets, and what begins with the closing one
abbrev pub inside : List ℕ → List ℕ
inside s = before_byte 41 (drop 1 s)

abbrev pub closing : List ℕ → List ℕ
closing s = from_byte 41 (drop 1 s)

-- these are three numbers
abbrev pub are_shift_numbers : List (List ℕ) → Bool
are_shift_numbers ws = length ws == 3 && list_all is_shift_number ws

-- three numbers between brackets, and nothing but spaces behind them
abbrev pub is_shift : List ℕ → Bool
is_shift s = are_shift_numbers (words_between_spaces (inside s)) && not (length (closing s) == 0) && length (words_between_spaces (drop 1 (closing s))) == 0

unfoldable pub is_shift_form : List ℕ → Bool
is_shift_form s = length s == 0 || is_shift s

-- the three numbers
abbrev pub shift_by : List (List ℕ) → Vec3 ℕ
shift_by ws = parts (shift_number (get_or ws 0 [])) (shift_number (get_or ws 1 [])) (shift_number (get_or ws 2 []))

abbrev pub shift_in : List ℕ → Vec3 ℕ
shift_in s = shift_by (words_between_spaces (inside s))

-- ---- the symbol

-- the lattice of a first word that names one
abbrev pub lattice_in : List ℕ → Lattice
lattice_in w = elim (lattice_of w) [ Some lattice ↦ lattice | None ↦ P ]

abbrev pub lattice_fault : List ℕ → Option HallFault
lattice_fault w = elim (lattice_of w) [ Some lattice ↦ None | None ↦ Some BadLattice ]

unfoldable pub symbol_fault : List ℕ → Option HallFault
symbol_fault text = first_of
    (when (length (skip_spaces text) == 0) Empty
    ∷ lattice_fault (first_word text)
    ∷ tokens_fault [] (words_between_spaces (tokens_text text))
    ∷ when (not (is_shift_form (shift_text text))) BadShift
    ∷ [])

unfoldable pub symbol_of : List ℕ → HallSymbol
symbol_of text = record {
  is_inverted = begins 45 (first_word text);
  lattice = lattice_in (first_word text);
  tokens = tokens_in [] (words_between_spaces (tokens_text text));
  shift = shift_in (shift_text text);
}

pub record Spells (text : List ℕ) (s : HallSymbol) : Type 0 where
  pub faultless : symbol_fault text ≡ None
  pub is : s ≡ symbol_of text
