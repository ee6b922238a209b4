-- The first matched row of a table, and the crystal in the basis of its symbol.
use Rattle.std.proofs.Common.{◌≡◌, refl, sym, ap, subst, ◌∙◌, ℕ, zero, suc, ◌+◌, ◌<◌, true, List, [], ◌∷◌, ◌++◌, length, take, map, arith, add-one}
use Rattle.std.specs.Prelude.{Some, None, Option, slice_get, IfOk, IfSome}
use Rattle.std.specs.declared.result.Result.{Result}
use Rattle.std.specs.declared.result.Result.TheVariants.{Ok, Err}
use Rattle.matrix3.specs.Matrices.{vector_map}
use Rattle.exact_num.specs.Meanings.{fraction_of}
use Rattle.crystal_spec.specs.Matrices.{Matrix}
use Rattle.crystal_spec.specs.Cells.{IsCell}
use Rattle.crystal_spec.specs.Crystals.{Structure}
use Rattle.crystal_spec.specs.Operations.{Operation, ListsAll}
use Rattle.basis_spec.specs.Translations.{IsPrimitive}
use Rattle.basis_spec.specs.Bases.{cell_in_basis}
use Rattle.basis_spec.proofs.PrimitiveBases.{cell_in_basis_is_cell}
use Rattle.op_group.specs.Groups.{IsGroupModulo}
use Rattle.op_group.specs.Lists.{OperationList}
use Rattle.prim_cell.specs.Primitives.{PrimitiveCell}
use Rattle.hall_symbol.specs.Symbols.{HallSymbol, generators}
use Rattle.hall_text.specs.Products.{IsGroupOf}
use Rattle.hall_text.specs.declared.rows.Row.{Row}
use Rattle.match_spec.specs.Fractions.{point_of}
use Rattle.match_spec.specs.FirstMap.{IsFirstMap}
use Rattle.group_match.specs.declared.map.Map.{Map}
use Rattle.standard_cell.specs.Conditions.{CanTake}
use Rattle.standard_cell.specs.Crystals.{SameAt}
use Rattle.standard_cell.specs.Groups.{AreSameOperations}
use Rattle.standard_cell.specs.Laws.{CanTakeLaw, HasGroupLaw}
use Rattle.standard_cell.specs.StandardCells.{IsStandard, IsWithinLimits}
use Rattle.standard_text.specs.StandardText.{standard_text, none_text}
use Rattle.answers.specs.declared.standard.Matching.{Matching}
use Rattle.answers.specs.Findings.{IsFound}
use Rattle.answers.specs.IdentifyReports.{IsUnmatched}
use Rattle.answers.specs.Matchings.{IsMapOfGroup, IsMatching}
use Rattle.answers.specs.StandardReports.{AreUnmatched, origin_of, HasFirstMatch, IsCellReport, IsTooWide, IsUnmatchedReport}

-- ---- the first matched row

-- the first map, of the group of a symbol
pub group_map : {E : Type 0} (n : ℕ) (os group : List Operation) (s : HallSymbol) (r : Result (Option Map) E) → IsGroupOf (generators s) group → IsGroupModulo 12 group →
    IfOk r (λ o. IfSome o (λ (m : Map). IsFirstMap group n os m.class m.turn (point_of (vector_map fraction_of m.origin)))) → IfOk r (λ o. IfSome o (IsMapOfGroup n os s))
group_map n os group s (Ok (Some m)) of_symbol is_group found = record { is_map = record { group = group; of_symbol = of_symbol; first = found }; is_group = is_group }
group_map n os group s (Ok None) of_symbol is_group found = tt
group_map n os group s (Err e) of_symbol is_group found = tt

-- the rows up to this one have no map
pub none_yet : (n : ℕ) (os : List Operation) (rows : List Row) (i : ℕ) (s : HallSymbol) → AreUnmatched n os (take i rows) → slice_get (map (λ (row : Row). row.symbol) rows) i ≡ Some s → IsUnmatched n os s → AreUnmatched n os (take (i + 1) rows)
none_yet n os [] i s before e none = absurd cc
none_yet n os (row ∷ rows) zero s before e none =
    let same : s ≡ row.symbol = cc in (subst (λ (t : HallSymbol). IsUnmatched n os t) same none, tt)
none_yet n os (row ∷ rows) (suc i) s before e none =
    let rest = none_yet n os rows i s before.1 e none in
    rw (add-one (suc i)) (before.0, subst (λ (k : ℕ). AreUnmatched n os (take k rows)) (add-one i) rest)

-- all rows
pub none_at_all : (n : ℕ) (os : List Operation) (rows : List Row) → AreUnmatched n os (take (length rows) rows) → AreUnmatched n os rows
none_at_all n os [] none = tt
none_at_all n os (row ∷ rows) none = (none.0, none_at_all n os rows none.1)

-- the row that is matched behind those without a map
pub matched_row : (n : ℕ) (os : List Operation) (rows : List Row) (i : ℕ) (s : HallSymbol) (m : Map) → AreUnmatched n os (take i rows) → slice_get (map (λ (row : Row). row.symbol) rows) i ≡ Some s → IsMapOfGroup n os s m → IsMatching n os rows (record { row = i; map = m })
matched_row n os [] i s m before e of_group = absurd cc
matched_row n os (row ∷ rows) zero s m before e of_group =
    let same : s ≡ row.symbol = cc in
    let here : IsMapOfGroup n os row.symbol m = subst (λ (t : HallSymbol). IsMapOfGroup n os t m) same of_group in
    record {
      row = row;
      first = record { before = []; later = rows; rows_are = refl; number = refl; unmatched = tt; is_map = here.is_map };
      is_group = here.is_group;
    }
matched_row n os (row ∷ rows) (suc i) s m before e of_group =
    let rest = matched_row n os rows i s m before.1 e of_group in
    record {
      row = rest.row;
      first = record {
        before = row ∷ rest.first.before;
        later = rest.first.later;
        rows_are = ap (λ (l : List Row). row ∷ l) rest.first.rows_are;
        number = ap suc rest.first.number;
        unmatched = (before.0, rest.first.unmatched);
        is_map = rest.first.is_map;
      };
      is_group = rest.is_group;
    }

-- its number is that of a row
within : (before later : List Row) (row : Row) → length before < length (before ++ row ∷ later)
within [] later row = omega arith
within (b ∷ before) later row = omega (arith, within before later row)

pub matched_within : (n : ℕ) (os : List Operation) (rows : List Row) (m : Matching) → IsMatching n os rows m → m.row < length rows
matched_within n os rows m h =
    let f = h.first in
    let same : m.row ≡ length f.before = cc in
    let inside : length f.before < length rows = subst (λ (l : List Row). length f.before < length l) (sym f.rows_are) (within f.before f.later h.row) in
    subst (λ (i : ℕ). i < length rows) (sym same) inside

-- and its name that of the row
name_behind : (before later : List Row) (row : Row) → slice_get (map (λ (r : Row). r.name) (before ++ row ∷ later)) (length before) ≡ Some row.name
name_behind [] later row = refl
name_behind (b ∷ before) later row = name_behind before later row

pub matched_name : (n : ℕ) (os : List Operation) (rows : List Row) (m : Matching) (name : List ℕ) (h : IsMatching n os rows m) → slice_get (map (λ (r : Row). r.name) rows) m.row ≡ Some name → name ≡ h.row.name
matched_name n os rows m name h e =
    let f = h.first in
    let same : m.row ≡ length f.before = cc in
    let here : slice_get (map (λ (r : Row). r.name) rows) m.row ≡ Some h.row.name =
    rw same (subst (λ (l : List Row). slice_get (map (λ (r : Row). r.name) l) (length f.before) ≡ Some h.row.name) (sym f.rows_are) (name_behind f.before f.later h.row)) in
    let both : Some name ≡ Some h.row.name = sym e ∙ here in cc

-- ---- the crystal in the basis of its symbol

pub can_take : CanTakeLaw → (n : ℕ) (os : List Operation) (rows : List Row) (m : Matching) → IsMatching n os rows m → CanTake m.map.turn (point_of (vector_map fraction_of m.map.origin))
can_take law n os rows m h = law h.first.is_map.group os n m.map.class m.map.turn (point_of (vector_map fraction_of m.map.origin)) h.is_group h.first.is_map.first

-- c and its primitive cell with all operations, and the first matched row
module _ (c : Structure) (p : PrimitiveCell) (list : OperationList) (rows : List Row) (found : IsFound c true p list) where
  same_n : list.n ≡ c.n
  same_n = found.n ∙ ap (λ (t : Structure). t.n) found.cell.cell ∙ found.cell.primitive.same.n

  all_there : ListsAll (cell_in_basis c p.back) list.operations
  all_there = subst (λ (t : Structure). ListsAll t list.operations) found.cell.cell found.group

  pub unmatched_report : (q : Matrix) (bytes : List ℕ) → q ≡ p.back → AreUnmatched list.n list.operations rows → bytes ≡ none_text → IsUnmatchedReport c rows q bytes
  unmatched_report q bytes same none lines = subst (λ (r : Matrix). IsUnmatchedReport c rows r bytes) (sym same) (record {
    primitive = found.cell.primitive;
    niggli = found.cell.niggli;
    operations = list.operations;
    all = all_there;
    unmatched = subst (λ (n : ℕ). AreUnmatched n list.operations rows) same_n none;
    lines = lines;
  })

  module _ (m : Matching) (h : IsMatching list.n list.operations rows m) where
    pub has_first : HasFirstMatch c rows p.back
    has_first =
        let f = h.first in
        record {
          primitive = found.cell.primitive;
          niggli = found.cell.niggli;
          operations = list.operations;
          all = all_there;
          number = suc m.row;
          row = h.row;
          map = m.map;
          first = record {
            before = f.before;
            later = f.later;
            rows_are = f.rows_are;
            number = f.number;
            unmatched = subst (λ (n : ℕ). AreUnmatched n list.operations f.before) same_n f.unmatched;
            is_map = record {
              group = f.is_map.group;
              of_symbol = f.is_map.of_symbol;
              first = subst (λ (n : ℕ). IsFirstMap f.is_map.group n list.operations m.map.class m.map.turn (origin_of m.map)) same_n f.is_map.first;
            };
          };
        }

    pub too_wide : (q : Matrix) → q ≡ p.back → ((s : Structure) → IsStandard p.cell m.map.turn (origin_of m.map) s → IsWithinLimits s → ⊥) → IsTooWide c rows q
    unfolding has_first
    too_wide q same wide = subst (λ (r : Matrix). IsTooWide c rows r) (sym same) (record {
      found = has_first;
      wide = subst (λ (t : Structure). (s : Structure) → IsStandard t m.map.turn (origin_of m.map) s → IsWithinLimits s → ⊥) found.cell.cell wide;
    })

    primitive_cell : IsCell p.cell
    primitive_cell = subst (λ (t : Structure). IsCell t) (sym found.cell.cell) (cell_in_basis_is_cell c p.back found.cell.of_cell found.cell.primitive.same.determinant_positive)

    is_primitive : IsPrimitive p.cell
    is_primitive = subst (λ (t : Structure). IsPrimitive t) (sym found.cell.cell) found.cell.primitive.primitive

    group_of_symbol : HasGroupLaw → (s : Structure) → IsStandard p.cell m.map.turn (origin_of m.map) s → (os : List Operation) → ListsAll s os → AreSameOperations s.n os h.first.is_map.group
    group_of_symbol law s standard os all =
        law p.cell s m.map.class m.map.turn (origin_of m.map) h.first.is_map.group list.operations os primitive_cell is_primitive found.group h.is_group
        (subst (λ (n : ℕ). IsFirstMap h.first.is_map.group n list.operations m.map.class m.map.turn (origin_of m.map)) found.n h.first.is_map.first) standard all

    pub cell_report : HasGroupLaw → (s : Structure) (number : ℕ) (name bytes : List ℕ) → IsStandard p.cell m.map.turn (origin_of m.map) s → SameAt s p.cell m.map.turn (origin_of m.map) → number ≡ suc m.row → name ≡ h.row.name →
        bytes ≡ standard_text number name m.map s → IsCellReport c rows p.back bytes
    unfolding has_first
    cell_report law s number name bytes standard same is_number is_name lines = record {
      found = has_first;
      cell = s;
      standard = subst (λ (t : Structure). IsStandard t m.map.turn (origin_of m.map) s) found.cell.cell standard;
      same = subst (λ (t : Structure). SameAt s t m.map.turn (origin_of m.map)) found.cell.cell same;
      group = group_of_symbol law s standard;
      lines = lines ∙ (λ i. standard_text (is_number i) (is_name i) m.map s);
    }
