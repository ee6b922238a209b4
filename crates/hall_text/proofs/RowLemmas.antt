-- Rows of a table, one after the other.
--   kept-skipped, kept-row     a line that is skipped, and one that is a row
--   Decides                    what is left to read decides the whole
--   decides_start, decides_next, decides_fault, decides_all
use Rattle.std.proofs.Common.{◌≡◌, inl, inr, ℕ, ◌+◌, true, false, List, [], ◌∷◌, ◌++◌, length, map, refl, sym, ap, subst, ◌∙◌, append_assoc, append-nil}
use Rattle.hall_text.specs.declared.fault.RowFault.{RowFault}
use Rattle.hall_text.specs.declared.rows.Row.{Row}
use Rattle.plain_text.specs.Text.{lines}
use Rattle.hall_text.specs.Tables.{spaced, is_skipped, kept, rows, row_of, IsRowFault, AreRows, IsFirstFault}
use Rattle.hall_text.specs.RowSteps.{IsLineRead}
use Rattle.std.proofs.lemmas.List.{length_push}

kept-skipped : (l : List ℕ) (ls : List (List ℕ)) → is_skipped l ≡ true → kept (l ∷ ls) ≡ kept ls
kept-skipped l ls e = rw e refl

kept-row : (l : List ℕ) (ls : List (List ℕ)) → is_skipped l ≡ false → kept (l ∷ ls) ≡ l ∷ kept ls
kept-row l ls e = rw e refl

-- what is left to read decides the whole: its faults, that it has none, and the rows
pub record Decides (all : List (List ℕ)) (old : List Row) (left : List (List ℕ)) : Type 0 where
  pub faults : (i : ℕ) (f : RowFault) → IsFirstFault (length old) (kept left) i f → IsFirstFault 0 all i f
  pub rows : AreRows (length old) (kept left) → AreRows 0 all
  pub items : old ++ map row_of (kept left) ≡ map row_of all

pub decides_start : (text : List ℕ) → Decides (rows text) [] (map spaced (lines text))
unfolding rows
decides_start text = record { faults = λ i f k. k; rows = λ k. k; items = refl }

-- nothing is left
pub decides_all : (all : List (List ℕ)) (old : List Row) → Decides all old [] → AreRows 0 all × (old ≡ map row_of all)
decides_all all old d = (d.rows tt, sym (append-nil old) ∙ d.items)

pub decides_next : (all : List (List ℕ)) (old new : List Row) (l : List ℕ) (later : List (List ℕ)) → Decides all old (l ∷ later) → IsLineRead old l new → Decides all new later
decides_next all old new l later d (inl h) =
    let e = kept-skipped l later h.0 in
    subst (λ (xs : List Row). Decides all xs later) (sym h.1) (record {
      faults = λ i f k. d.faults i f (subst (λ (ls : List (List ℕ)). IsFirstFault (length old) ls i f) (sym e) k);
      rows = λ k. d.rows (subst (AreRows (length old)) (sym e) k);
      items = ap (λ (ls : List (List ℕ)). old ++ map row_of ls) (sym e) ∙ d.items;
    })
decides_next all old new l later d (inr h) =
    let e = kept-row l later h.0 in
    let n = length_push old (row_of l) in
    subst (λ (xs : List Row). Decides all xs later) (sym h.2) (record {
      faults = λ i f k. d.faults i f (subst (λ (ls : List (List ℕ)). IsFirstFault (length old) ls i f) (sym e) (inr (h.1, subst (λ (m : ℕ). IsFirstFault m (kept later) i f) n k)));
      rows = λ k. d.rows (subst (AreRows (length old)) (sym e) (h.1, subst (λ (m : ℕ). AreRows m (kept later)) n k));
      items = append_assoc old (row_of l ∷ []) (map row_of (kept later)) ∙ ap (λ (ls : List (List ℕ)). old ++ map row_of ls) (sym e) ∙ d.items;
    })

pub decides_fault : (all : List (List ℕ)) (old : List Row) (l : List ℕ) (later : List (List ℕ)) (i : ℕ) (f : RowFault) → Decides all old (l ∷ later) → is_skipped l ≡ false → IsRowFault (length old + 1) l f → i ≡ length old + 1 → IsFirstFault 0 all i f
decides_fault all old l later i f d s h e =
    d.faults i f (subst (λ (ls : List (List ℕ)). IsFirstFault (length old) ls i f) (sym (kept-row l later s)) (inl (h, e)))
