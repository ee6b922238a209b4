-- Tables of symbols: which texts spell one, and the first row with a fault of the others.
--   rows text             the lines that are rows
--   IsRow n line          row number n has no fault
--   IsRowFault n line f   f is the first fault of row number n
--   row_of line           the name and the symbol of a row
--   SpellsTable text t    no row has a fault, and t has the rows in order
--   TellsTable text e     e names the first row with a fault, and its first fault
-- A row is a name, spaces and a symbol that goes to the end of the line. A tab counts as a space. Lines without words, and
-- those whose first word begins with `#`, are no rows. Rows are counted from 1.
use Rattle.std.specs.Prelude.{◌≡◌, ⊤, ◌⊎◌, ℕ, ◌+◌, Bool, true, false, not, ◌==◌, ◌||◌, ◌&&◌, nat_le, nat_lt, List, [], ◌∷◌, map, length, if◌then◌else◌}
use Rattle.std.specs.declared.option.Option.TheVariants.{Some, None}
use Rattle.plain_text.specs.Text.{lines, has_bad_byte}
use Rattle.hall_symbol.specs.Cuts.{skip_spaces, begins, first_word, behind_first_word}
use Rattle.hall_symbol.specs.Symbols.{generators}
use Rattle.hall_symbol.specs.Spelling.{symbol_fault, symbol_of}
use Rattle.hall_text.specs.declared.fault.RowFault.{RowFault}
use Rattle.hall_text.specs.declared.fault.RowFault.TheVariants as faults
use Rattle.hall_text.specs.declared.fault.TableError.{TableError}
use Rattle.hall_text.specs.declared.fault.TableError.TheVariants as errors
use Rattle.hall_text.specs.declared.rows.Row.{Row}
use Rattle.hall_text.specs.declared.limits.TheConstants.{MOST_ROWS}
use Rattle.hall_text.specs.Products.{TooMany}

-- a tab as a space
abbrev pub spaced : List ℕ → List ℕ
spaced line = map (λ b. if b == 9 then 32 else b) line

-- no word stands in the line, or the first begins with `#`
unfoldable pub is_skipped : List ℕ → Bool
is_skipped line = length (skip_spaces line) == 0 || begins 35 (skip_spaces line)

-- the lines that are not skipped
abbrev pub kept : List (List ℕ) → List (List ℕ)
kept [] = []
kept (line ∷ later) = if is_skipped line then kept later else line ∷ kept later

-- the rows, with tabs as spaces
unfoldable pub rows : List ℕ → List (List ℕ)
rows text = kept (map spaced (lines text))

-- plain ASCII, two words and more, and a name of at most 32 bytes
unfoldable pub is_row_form : List ℕ → Bool
is_row_form line = not (has_bad_byte line) && not (length (skip_spaces (behind_first_word line)) == 0) && nat_le (length (first_word line)) 32

abbrev pub row_of : List ℕ → Row
row_of line = record { name = first_word line; symbol = symbol_of (behind_first_word line) }

-- row number n has no fault
pub record IsRow (n : ℕ) (line : List ℕ) : Type 0 where
  pub within : nat_lt MOST_ROWS n ≡ false
  pub form : is_row_form line ≡ true
  pub faultless : symbol_fault (behind_first_word line) ≡ None
  pub few : TooMany (generators (symbol_of (behind_first_word line))) → ⊥

-- the first fault of row number n, in this order
abbrev pub IsRowFault : ℕ → List ℕ → RowFault → Type 0
IsRowFault n line faults.TooManyRows = nat_lt MOST_ROWS n ≡ true
IsRowFault n line faults.BadRow = (nat_lt MOST_ROWS n ≡ false) × (is_row_form line ≡ false)
IsRowFault n line (faults.Symbol f) = (nat_lt MOST_ROWS n ≡ false) × (is_row_form line ≡ true) × (symbol_fault (behind_first_word line) ≡ Some f)
IsRowFault n line faults.TooManyMatrices = (nat_lt MOST_ROWS n ≡ false) × (is_row_form line ≡ true) × (symbol_fault (behind_first_word line) ≡ None) × TooMany (generators (symbol_of (behind_first_word line)))

-- these rows, behind n others, have no fault
abbrev pub AreRows : ℕ → List (List ℕ) → Type 0
AreRows n [] = Unit {0}
AreRows n (line ∷ later) = IsRow (n + 1) line × AreRows (n + 1) later

-- of these rows, behind n others, number i is the first with a fault, and f is its first
abbrev pub IsFirstFault : ℕ → List (List ℕ) → ℕ → RowFault → Type 0
IsFirstFault n [] i f = ⊥
IsFirstFault n (line ∷ later) i f = (IsRowFault (n + 1) line f × (i ≡ n + 1)) ⊎ (IsRow (n + 1) line × IsFirstFault (n + 1) later i f)

pub record SpellsTable (text : List ℕ) (t : List Row) : Type 0 where
  pub faultless : AreRows 0 (rows text)
  pub is : t ≡ map row_of (rows text)

-- the first row with a fault and its first fault; or there was not enough memory
abbrev pub TellsTable : List ℕ → TableError → Type 0
TellsTable text errors.Memory = ⊤
TellsTable text (errors.Refused i f) = IsFirstFault 0 (rows text) i f
