-- What `identify` tells of a crystal and a table of symbols.
--   IsRowMap n os s m            m is the first map that carries the group of the symbol s onto the group os, or there is none
--   AreRowMaps n os symbols maps row by row
--   IsIdentification c rows q matched bytes      the maps of the rows onto the group of c, in the basis of q
--   IsIdentifyReport c rows kept matched bytes   the same, for the basis of a report
-- Our own; the class of maps and their order are those of match_spec.
use Rattle.std.specs.Prelude.{◌≡◌, ℕ, Bool, List, [], ◌∷◌, map}
use Rattle.std.specs.declared.option.Option.{Option}
use Rattle.std.specs.declared.option.Option.TheVariants.{Some, None}
use Rattle.matrix3.specs.Matrices.{vector_map}
use Rattle.exact_num.specs.Meanings.{fraction_of}
use Rattle.crystal_spec.specs.Matrices.{Matrix}
use Rattle.crystal_spec.specs.Crystals.{Structure}
use Rattle.crystal_spec.specs.Operations.{Operation, ListsAll}
use Rattle.lattice_spec.specs.Niggli.{IsNiggli}
use Rattle.basis_spec.specs.Bases.{cell_in_basis, IsPrimitiveIn}
use Rattle.hall_symbol.specs.Symbols.{HallSymbol, generators}
use Rattle.hall_text.specs.Products.{IsGroupOf}
use Rattle.hall_text.specs.declared.rows.Row.{Row}
use Rattle.match_spec.specs.Fractions.{point_of}
use Rattle.match_spec.specs.FirstMap.{IsFirstMap, HasNoMap}
use Rattle.group_match.specs.declared.map.Map.{Map}
use Rattle.match_text.specs.MatchText.{has_match, matches_text}
use Rattle.report_basis.specs.declared.Kept.{Kept}
use Rattle.report_basis.specs.declared.Kept.TheVariants.{NoBase, Back, Two}

-- the first map of the class, with the least balanced origin, that carries the group of the symbol onto this one in units of 1/n
pub record IsMapOf (n : ℕ) (os : List Operation) (s : HallSymbol) (m : Map) : Type 0 where
  pub group : List Operation
  pub of_symbol : IsGroupOf (generators s) group
  pub first : IsFirstMap group n os m.class m.turn (point_of (vector_map fraction_of m.origin))

-- no map of the class and no fractions at all carry it
pub record IsUnmatched (n : ℕ) (os : List Operation) (s : HallSymbol) : Type 0 where
  pub group : List Operation
  pub of_symbol : IsGroupOf (generators s) group
  pub none : HasNoMap group n os

abbrev pub IsRowMap : ℕ → List Operation → HallSymbol → Option Map → Type 0
IsRowMap n os s (Some m) = IsMapOf n os s m
IsRowMap n os s None = IsUnmatched n os s

-- one map or none a symbol, in order
abbrev pub AreRowMaps : ℕ → List Operation → List HallSymbol → List (Option Map) → Type 0
AreRowMaps n os [] [] = Unit {0}
AreRowMaps n os [] (m ∷ maps) = ⊥
AreRowMaps n os (s ∷ symbols) [] = ⊥
AreRowMaps n os (s ∷ symbols) (m ∷ maps) = IsRowMap n os s m × AreRowMaps n os symbols maps

-- Q takes coordinates to those in a Niggli-reduced basis of all translations of the crystal; the maps are those of the rows
-- onto the group of all symmetry operations there; and the bytes are their text. Whether a row is matched is told besides.
pub record IsIdentification (c : Structure) (rows : List Row) (q : Matrix) (matched : Bool) (bytes : List ℕ) : Type 0 where
  pub primitive : IsPrimitiveIn c q
  pub niggli : IsNiggli (cell_in_basis c q).metric
  pub operations : List Operation
  pub all : ListsAll (cell_in_basis c q) operations
  pub maps : List (Option Map)
  pub are_maps : AreRowMaps c.n operations (map (λ (row : Row). row.symbol) rows) maps
  pub some : has_match maps ≡ matched
  pub lines : bytes ≡ matches_text q rows maps

-- the report speaks of the basis of q
abbrev pub IsIdentifyReport : Structure → List Row → Kept → Bool → List ℕ → Type 0
IsIdentifyReport c rows NoBase matched bytes = ⊥
IsIdentifyReport c rows (Back q) matched bytes = IsIdentification c rows q matched bytes
IsIdentifyReport c rows (Two q q') matched bytes = ⊥
