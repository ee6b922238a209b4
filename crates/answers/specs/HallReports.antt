-- What `hall` tells of a word.
--   IsHallReport word kept bytes   the lines of the group of the Hall symbol that the word spells
--   IsSymbolFault word fault       why the word names no group that is listed
-- Our own; the group of a symbol is that of hall_text.
use Rattle.std.specs.Prelude.{◌≡◌, ℕ, List}
use Rattle.std.specs.declared.option.Option.TheVariants.{Some}
use Rattle.lists.specs.Increasing.{IsIncreasing}
use Rattle.crystal_spec.specs.Operations.{Operation, compare_of}
use Rattle.operation_text.specs.OperationText.{operations_text}
use Rattle.hall_symbol.specs.Symbols.{HallSymbol, generators}
use Rattle.hall_symbol.specs.Spelling.{Spells, symbol_fault}
use Rattle.hall_text.specs.Products.{IsGroupOf, TooMany}
use Rattle.hall_text.specs.declared.fault.RowFault.{RowFault}
use Rattle.hall_text.specs.declared.fault.RowFault.TheVariants as faults
use Rattle.report_basis.specs.declared.Kept.{Kept}
use Rattle.report_basis.specs.declared.Kept.TheVariants.{NoBase, Back, Two}

-- The word spells a symbol; the operations are exactly the products of the symbol's operations modulo whole translations, in
-- units of 1/12, strictly increasing; and the bytes are their lines.
pub record IsGroupText (word bytes : List ℕ) : Type 0 where
  pub symbol : HallSymbol
  pub spelled : Spells word symbol
  pub operations : List Operation
  pub group : IsGroupOf (generators symbol) operations
  pub ordered : IsIncreasing compare_of operations
  pub lines : bytes ≡ operations_text (record { n = 12; operations = operations })

-- the report speaks of the basis of the symbol alone
abbrev pub IsHallReport : List ℕ → Kept → List ℕ → Type 0
IsHallReport word NoBase bytes = IsGroupText word bytes
IsHallReport word (Back q) bytes = ⊥
IsHallReport word (Two q q') bytes = ⊥

-- the word spells a symbol, whose products have 49 different matrices
pub record HasTooManyMatrices (word : List ℕ) : Type 0 where
  pub symbol : HallSymbol
  pub spelled : Spells word symbol
  pub many : TooMany (generators symbol)

-- the word spells no symbol, for its first fault from the left; or one with too many matrices
abbrev pub IsSymbolFault : List ℕ → RowFault → Type 0
IsSymbolFault word (faults.Symbol fault) = symbol_fault word ≡ Some fault
IsSymbolFault word faults.TooManyMatrices = HasTooManyMatrices word
IsSymbolFault word faults.TooManyRows = ⊥
IsSymbolFault word faults.BadRow = ⊥
