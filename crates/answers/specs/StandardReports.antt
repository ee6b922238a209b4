-- What `standard` tells of a crystal and a table of symbols.
--   AreUnmatched n os rows          no row has a map onto the group os
--   IsFirstMatch n os rows i row m  the row number i, from 1, is the first that has a map, and m is its first
--   HasFirstMatch c rows q          the first matched row of the primitive cell of c in the basis of q
--   IsCellReport c rows q bytes     the crystal in the basis of the symbol of that row
--   IsTooWide c rows q              no cell can hold it
--   IsUnmatchedReport c rows q bytes no row is matched
--   IsStandardReport c rows kept matched bytes   the report, for the basis that it speaks of
-- Our own; maps are those of `identify`, the cell is that of standard_cell.
use Rattle.std.specs.Prelude.{◌≡◌, ℕ, suc, Bool, true, false, List, [], ◌∷◌, ◌++◌, length}
use Rattle.matrix3.specs.Matrices.{vector_map}
use Rattle.exact_num.specs.Meanings.{fraction_of}
use Rattle.crystal_spec.specs.Matrices.{Matrix}
use Rattle.crystal_spec.specs.Crystals.{Structure}
use Rattle.crystal_spec.specs.Operations.{Operation, ListsAll}
use Rattle.lattice_spec.specs.Niggli.{IsNiggli}
use Rattle.basis_spec.specs.Bases.{cell_in_basis, IsPrimitiveIn}
use Rattle.hall_text.specs.declared.rows.Row.{Row}
use Rattle.match_spec.specs.Points.{Point}
use Rattle.match_spec.specs.Fractions.{point_of}
use Rattle.group_match.specs.declared.map.Map.{Map}
use Rattle.standard_cell.specs.StandardCells.{IsStandard, IsWithinLimits}
use Rattle.standard_cell.specs.Crystals.{SameAt}
use Rattle.standard_cell.specs.Groups.{AreSameOperations}
use Rattle.standard_text.specs.StandardText.{standard_text, none_text}
use Rattle.report_basis.specs.declared.Kept.{Kept}
use Rattle.report_basis.specs.declared.Kept.TheVariants.{NoBase, Back, Two}
use Rattle.answers.specs.IdentifyReports.{IsMapOf, IsUnmatched}

abbrev pub AreUnmatched : ℕ → List Operation → List Row → Type 0
AreUnmatched n os [] = Unit {0}
AreUnmatched n os (row ∷ rows) = IsUnmatched n os row.symbol × AreUnmatched n os rows

-- no row before it has a map
pub record IsFirstMatch (n : ℕ) (os : List Operation) (rows : List Row) (i : ℕ) (row : Row) (m : Map) : Type 0 where
  pub before : List Row
  pub later : List Row
  pub rows_are : rows ≡ before ++ row ∷ later
  pub number : i ≡ suc (length before)
  pub unmatched : AreUnmatched n os before
  pub is_map : IsMapOf n os row.symbol m

-- the origin shift of a map
abbrev pub origin_of : Map → Point
origin_of m = point_of (vector_map fraction_of m.origin)

-- Q takes coordinates to those in a Niggli-reduced basis of all translations of the crystal, and the map is the first of the
-- first matched row onto the group of all symmetry operations there
pub record HasFirstMatch (c : Structure) (rows : List Row) (q : Matrix) : Type 0 where
  pub primitive : IsPrimitiveIn c q
  pub niggli : IsNiggli (cell_in_basis c q).metric
  pub operations : List Operation
  pub all : ListsAll (cell_in_basis c q) operations
  pub number : ℕ
  pub row : Row
  pub map : Map
  pub first : IsFirstMatch c.n operations rows number row map

-- The bytes are the text of the row, its map, and the standard cell, which is the crystal in the basis and with the origin of
-- the symbol. Its symmetry operations are exactly those of the symbol's group.
pub record IsCellReport (c : Structure) (rows : List Row) (q : Matrix) (bytes : List ℕ) : Type 0 where
  pub found : HasFirstMatch c rows q
  pub cell : Structure
  pub standard : IsStandard (cell_in_basis c q) found.map.turn (origin_of found.map) cell
  pub same : SameAt cell (cell_in_basis c q) found.map.turn (origin_of found.map)
  pub group : (os : List Operation) → ListsAll cell os → AreSameOperations cell.n os found.first.is_map.group
  pub lines : bytes ≡ standard_text found.number found.row.name found.map cell

-- the standard cell is not within the limits of cells
pub record IsTooWide (c : Structure) (rows : List Row) (q : Matrix) : Type 0 where
  pub found : HasFirstMatch c rows q
  pub wide : (s : Structure) → IsStandard (cell_in_basis c q) found.map.turn (origin_of found.map) s → IsWithinLimits s → ⊥

pub record IsUnmatchedReport (c : Structure) (rows : List Row) (q : Matrix) (bytes : List ℕ) : Type 0 where
  pub primitive : IsPrimitiveIn c q
  pub niggli : IsNiggli (cell_in_basis c q).metric
  pub operations : List Operation
  pub all : ListsAll (cell_in_basis c q) operations
  pub unmatched : AreUnmatched c.n operations rows
  pub lines : bytes ≡ none_text

-- the report speaks of the basis of q
abbrev pub IsStandardReport : Structure → List Row → Kept → Bool → List ℕ → Type 0
IsStandardReport c rows NoBase matched bytes = ⊥
IsStandardReport c rows (Back q) true bytes = IsCellReport c rows q bytes
IsStandardReport c rows (Back q) false bytes = IsUnmatchedReport c rows q bytes
IsStandardReport c rows (Two q q') matched bytes = ⊥
