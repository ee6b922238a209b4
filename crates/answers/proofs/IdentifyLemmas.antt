-- The maps of a table's rows, one after another, and what a search for them asks of a found group.
use Rattle.std.proofs.Common.{◌≡◌, ℕ, suc, ◌+◌, Bool, true, List, [], ◌∷◌, ◌++◌, length, map, drop, refl, sym, ap, subst, ◌∙◌, append_assoc}
use Rattle.std.specs.Prelude.{Some, None, Option, slice_get, IfOk, IfSome, IfNone}
use Rattle.std.specs.declared.result.Result.{Result}
use Rattle.std.specs.declared.result.Result.TheVariants.{Ok, Err}
use Rattle.matrix3.specs.Matrices.{vector_map}
use Rattle.lists.proofs.Walks.{drop_at}
use Rattle.exact_num.specs.Meanings.{fraction_of}
use Rattle.crystal_spec.specs.Matrices.{Matrix}
use Rattle.crystal_spec.specs.Crystals.{Structure}
use Rattle.crystal_spec.specs.Operations.{Operation, ListsAll}
use Rattle.op_group.specs.Lists.{OperationList}
use Rattle.prim_cell.specs.Primitives.{PrimitiveCell}
use Rattle.hall_symbol.specs.Symbols.{HallSymbol, generators}
use Rattle.hall_text.specs.Products.{IsGroupOf}
use Rattle.hall_text.specs.declared.rows.Row.{Row}
use Rattle.match_spec.specs.Fractions.{point_of}
use Rattle.match_spec.specs.FirstMap.{IsFirstMap, HasNoMap}
use Rattle.group_match.specs.declared.map.Map.{Map}
use Rattle.match_text.specs.MatchText.{has_match, matches_text}
use Rattle.report_basis.specs.declared.Kept.{Kept}
use Rattle.report_basis.specs.declared.Kept.TheVariants.{Back}
use Rattle.answers.specs.Findings.{IsFound}
use Rattle.answers.specs.IdentifyReports.{IsRowMap, AreRowMaps, IsIdentification, IsIdentifyReport}

-- ---- the map of a row

-- the first map or none, of the group of a symbol
pub row_map : {E : Type 0} (n : ℕ) (os group : List Operation) (s : HallSymbol) (r : Result (Option Map) E) → IsGroupOf (generators s) group →
    IfOk r (λ o. IfSome o (λ (m : Map). IsFirstMap group n os m.class m.turn (point_of (vector_map fraction_of m.origin)))) → IfOk r (λ o. IfNone o (HasNoMap group n os)) → IfOk r (λ o. IsRowMap n os s o)
row_map n os group s (Ok (Some m)) of_symbol found absent = record { group = group; of_symbol = of_symbol; first = found }
row_map n os group s (Ok None) of_symbol found absent = record { group = group; of_symbol = of_symbol; none = absent }
row_map n os group s (Err e) of_symbol found absent = tt

-- ---- the rows in order

-- a map of the row number i, before those of the rows behind it
pub row_before : (n : ℕ) (os : List Operation) (symbols : List HallSymbol) (i : ℕ) (s : HallSymbol) (m : Option Map) (later : List (Option Map)) → slice_get symbols i ≡ Some s → IsRowMap n os s m → AreRowMaps n os (drop (i + 1) symbols) later → AreRowMaps n os (drop i symbols) (m ∷ later)
row_before n os symbols i s m later e first rest = subst (λ (list : List HallSymbol). AreRowMaps n os list (m ∷ later)) (sym (drop_at symbols i s e)) (first, rest)

-- maps and one more, before others
pub appended : {X : Type 0} (xs ys : List X) (x : X) (later : List X) → ys ≡ xs ++ x ∷ [] → xs ++ x ∷ later ≡ ys ++ later
appended xs ys x later e = sym (append_assoc xs (x ∷ []) later) ∙ ap (λ (list : List _). list ++ later) (sym e)

-- no row is left behind the last one
pub no_row_left : (n : ℕ) (os : List Operation) (rows : List Row) → AreRowMaps n os (drop (length rows) (map (λ (row : Row). row.symbol) rows)) []
no_row_left n os [] = tt
no_row_left n os (row ∷ rows) = no_row_left n os rows

-- as many maps as rows
pub one_map_a_row : (n : ℕ) (os : List Operation) (rows : List Row) (maps : List (Option Map)) → AreRowMaps n os (map (λ (row : Row). row.symbol) rows) maps → length maps ≡ length rows
one_map_a_row n os [] [] h = refl
one_map_a_row n os [] (m ∷ maps) h = absurd h
one_map_a_row n os (row ∷ rows) [] h = absurd h
one_map_a_row n os (row ∷ rows) (m ∷ maps) h = ap suc (one_map_a_row n os rows maps h.1)

-- ---- the report

-- the report of the maps, and whether a row has one
pub identified : (c : Structure) (p : PrimitiveCell) (list : OperationList) (rows : List Row) (maps : List (Option Map)) (matched : Bool) (back : Matrix) (kept : Kept) (bytes : List ℕ) → IsFound c true p list →
    AreRowMaps list.n list.operations (map (λ (row : Row). row.symbol) rows) maps → has_match maps ≡ matched → bytes ≡ matches_text back rows maps → kept ≡ Back p.back → back ≡ p.back → IsIdentifyReport c rows kept matched bytes
identified c p list rows maps matched back kept bytes found are some lines in_basis same =
    let made = found.cell in
    let same_n : list.n ≡ c.n = found.n ∙ ap (λ (t : Structure). t.n) made.cell ∙ made.primitive.same.n in
    let report : IsIdentification c rows p.back matched bytes = record {
      primitive = made.primitive;
      niggli = made.niggli;
      operations = list.operations;
      all = subst (λ (t : Structure). ListsAll t list.operations) made.cell found.group;
      maps = maps;
      are_maps = subst (λ (n : ℕ). AreRowMaps n list.operations (map (λ (row : Row). row.symbol) rows) maps) same_n are;
      some = some;
      lines = lines ∙ ap (λ (q : Matrix). matches_text q rows maps) same;
    } in
    subst (λ (k : Kept). IsIdentifyReport c rows k matched bytes) (sym in_basis) report
