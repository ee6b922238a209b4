-- Each cell that a text spells is printable.
--
-- No line breaks a rule. So each number is in lowest terms, and scale, n and k, which are the least common denominators, are
-- the least units; sizes are within the limits of the cell file, and names have the form of names.
use Rattle.std.proofs.Common.{◌≡◌, ℕ, zero, suc, ◌^◌, ◌<◌, ◌≤◌, Bool, true, false, List, [], ◌∷◌, ◌++◌, length, map, get_or, Option, Some, None, refl, sym, ap, subst, ◌∙◌, arith, length-append}
use Rattle.std.specs.Prelude.{ℤ, pos, ◌≤ℤ◌, nat_le, unsigned_abs}
use Rattle.std.specs.Int.{◌∣◌}
use Rattle.std.specs.List.{fold, list_all, list_any}
use Rattle.std.proofs.lemmas.Bool.{leb-true, and_parts}
use Rattle.std.proofs.lemmas.Int.{ints}
use Rattle.std.proofs.lemmas.List.{length-map}
use Rattle.numbers.specs.Gcd.{gcd}
use Rattle.crystal_spec.specs.Crystals.{Structure}
use Rattle.crystal.specs.Names.{is_name}
use Rattle.crystal.specs.Numbering.{AreByFirstUse}
use Rattle.cell_text.specs.declared.version.Version.{Version}
use Rattle.cell_text.specs.declared.fault.CellFault.{CellFault}
use Rattle.plain_text.specs.Text.{lines}
use Rattle.numbers.specs.Fraction.{Fraction}
use Rattle.plain_text.specs.NumberWords.{common_denominator, scaled, number_value}
use Rattle.plain_text.specs.FirstFaults.{or_else, first_of}
use Rattle.plain_text.proofs.Decimals.{number_positive}
use Rattle.cell_text.specs.Lines.{number_form, word_fault, same_word, Entry, skipped, metric_entry, atom_entry, end_entry, kind_entry, other_entry}
use Rattle.cell_text.specs.Entries.{AtomLine, ScaledMetric, Contents, values, nothing, number_at, atom_line_of, metric_of, with_entry, state_after, contents, positions, moments, is_billion, is_metric_in_range, are_moments_in_range}
use Rattle.cell_text.specs.Rules.{metric_fault, atom_fault, entry_fault}
use Rattle.cell_text.specs.CellFile.{Spells, cell_with, with_name, names_of, atom_of, no_metric}
use Rattle.cell_text.proofs.Judging.{IsEntry}
use Rattle.cell_text.proofs.MetricLines.{number_billion}
use Rattle.cell_text.proofs.NameLemmas.{with-old, with-new, spelled_numbered}
use Rattle.cell_text.proofs.WordFaults.{number_passes}
use Rattle.cell_text.proofs.PassedLines.{all_none, metric_numbers, metric_fits, atom_numbers, moments_fit, end_behind_metric, text_holds, text_ends}
use Rattle.cell_print.specs.CellFileText.{scalar_products}
use Rattle.cell_print.specs.Printable.{divisor_with, all_positions, all_moments, AreAtMost, IsPrintable}
use Rattle.cell_print.proofs.CommonDenominators.{AllDivisible}
use Rattle.cell_print.proofs.LeastUnits.{IsLowest, Each, value_lowest, least_unit, least_numerators, divisor-start, divisor-each, residue_divisor}

-- ---- the numbers of a line

rest_none : (f r : Option CellFault) → or_else f r ≡ None → r ≡ None
rest_none None r e = e
rest_none (Some f) r e = absurd cc

-- the numbers of words that break no rule are in lowest terms
values_lowest : (version : Version) (ws : List (List ℕ)) → first_of (map (word_fault version) ws) ≡ None → Each IsLowest (values ws)
values_lowest version [] e = tt
values_lowest version (w ∷ ws) e = (
  value_lowest w (number_positive (number_form version) w (number_passes version w (all_none (map (word_fault version) (w ∷ ws)) 0 e))),
  values_lowest version ws (rest_none (word_fault version w) (first_of (map (word_fault version) ws)) e),
)

nothing_lowest : IsLowest nothing
unfolding gcd
nothing_lowest = record { positive = omega arith; lowest = refl }

number_lowest : (fs : List Fraction) (i : ℕ) → Each IsLowest fs → IsLowest (number_at fs i)
number_lowest [] i l = nothing_lowest
number_lowest (f ∷ fs) zero l = l.0
number_lowest (f ∷ fs) (suc i) l = number_lowest fs i l.1

-- ---- what the contents are

-- least units, within the limits
record IsPrintableMetric (m : ScaledMetric) : Type 0 where
  pub scale : m.scale ≤ 10 ^ 9
  pub least : divisor_with m.scale (scalar_products m.entries) ≡ 1
  pub entries : AreAtMost (10 ^ 9) (scalar_products m.entries)

abbrev ArePrintableMetrics : List ScaledMetric → Type 0
ArePrintableMetrics [] = Unit {0}
ArePrintableMetrics (m ∷ ms) = IsPrintableMetric m × ArePrintableMetrics ms

-- a name, and numbers in lowest terms
record IsPrintableAtom (a : AtomLine) : Type 0 where
  pub name : is_name a.name ≡ true
  pub position : Each IsLowest (a.x ∷ a.y ∷ a.z ∷ [])
  pub moment : Each IsLowest (a.ma ∷ a.mb ∷ a.mc ∷ [])

abbrev ArePrintableAtoms : List AtomLine → Type 0
ArePrintableAtoms [] = Unit {0}
ArePrintableAtoms (a ∷ held) = IsPrintableAtom a × ArePrintableAtoms held

-- behind `end` there is a metric tensor
record HoldsPrintable (held : Contents) : Type 0 where
  pub metrics : ArePrintableMetrics held.metrics
  pub some : held.ended ≡ true → 0 < length held.metrics
  pub atoms : ArePrintableAtoms held.atoms
  pub moments : are_moments_in_range held.atoms ≡ true

-- ---- a line that breaks no rule

-- six numbers are their scalar products
least_six : (fs : List Fraction) → length fs ≡ 6 → divisor_with (common_denominator fs) (map (scaled (common_denominator fs)) fs) ≡ 1 → divisor_with (metric_of fs).scale (scalar_products (metric_of fs).entries) ≡ 1
least_six (aa ∷ bb ∷ cc_ ∷ bc ∷ ac ∷ ab ∷ []) n e = e
least_six fs n e = absurd (omega arith)

metric_printable : (fs : List Fraction) → length fs ≡ 6 → is_metric_in_range fs ≡ true → Each IsLowest fs → IsPrintableMetric (metric_of fs)
unfolding is_metric_in_range
metric_printable fs n e l =
    let d = common_denominator fs in
    let p = and_parts (nat_le d 1000000000) (list_all (λ (f : Fraction). is_billion (scaled d f)) fs) e in
    let small : (i : ℕ) → unsigned_abs (scaled d (number_at fs i)) ≤ 10 ^ 9 = λ i. leb-true (unsigned_abs (scaled d (number_at fs i))) 1000000000 (number_billion d fs i p.1) in
    record {
      scale = leb-true d 1000000000 p.0;
      least = least_six fs n (least_numerators fs l);
      entries = (small 0, (small 1, (small 2, (small 3, (small 4, (small 5, tt))))));
    }

metric_here : (version : Version) (held : Contents) (ws : List (List ℕ)) → length ws ≡ 6 → metric_fault version held ws ≡ None → IsPrintableMetric (metric_of (values ws))
metric_here version held ws n e = metric_printable (values ws) (length-map ws number_value ∙ n) (metric_fits version held ws e) (values_lowest version ws (metric_numbers version held ws e))

atom_here : (version : Version) (held : Contents) (name : List ℕ) (ws : List (List ℕ)) → is_name name ≡ true → atom_fault version held name ws ≡ None → IsPrintableAtom (atom_line_of name (values ws))
atom_here version held name ws n e =
    let l = values_lowest version ws (atom_numbers version held name ws e) in
    let at : (i : ℕ) → IsLowest (number_at (values ws) i) = λ i. number_lowest (values ws) i l in
    record { name = n; position = (at 0, (at 1, (at 2, tt))); moment = (at 3, (at 4, (at 5, tt))) }

metrics-append : (ms : List ScaledMetric) (m : ScaledMetric) → ArePrintableMetrics ms → IsPrintableMetric m → ArePrintableMetrics (ms ++ m ∷ [])
metrics-append [] m h one = (one, tt)
metrics-append (x ∷ ms) m h one = (h.0, metrics-append ms m h.1 one)

atoms-append : (xs : List AtomLine) (a : AtomLine) → ArePrintableAtoms xs → IsPrintableAtom a → ArePrintableAtoms (xs ++ a ∷ [])
atoms-append [] a h one = (one, tt)
atoms-append (x ∷ xs) a h one = (h.0, atoms-append xs a h.1 one)

later_printable : (version : Version) (held : Contents) (entry : Entry) → IsEntry entry → entry_fault version held entry ≡ None → HoldsPrintable held → HoldsPrintable (with_entry held entry)
later_printable version held skipped n e h = h
later_printable version held (metric_entry ws) n e h = record {
  metrics = metrics-append held.metrics (metric_of (values ws)) h.metrics (metric_here version held ws n e);
  some = λ ended. omega (arith, length-append held.metrics (metric_of (values ws) ∷ []));
  atoms = h.atoms;
  moments = h.moments;
}
later_printable version held (atom_entry name ws) n e h = record {
  metrics = h.metrics;
  some = h.some;
  atoms = atoms-append held.atoms (atom_line_of name (values ws)) h.atoms (atom_here version held name ws n e);
  moments = moments_fit version held name ws e;
}
later_printable version held end_entry n e h = record { metrics = h.metrics; some = λ ended. end_behind_metric held e; atoms = h.atoms; moments = h.moments }
later_printable version held (kind_entry kind) n e h = record { metrics = h.metrics; some = h.some; atoms = h.atoms; moments = h.moments }
later_printable version held other_entry n e h = absurd cc

nothing_printable : HoldsPrintable (contents [])
unfolding state_after are_moments_in_range moments
nothing_printable = record { metrics = tt; some = λ e. absurd (cc e); atoms = tt; moments = refl }

-- ---- the cell

first_printable : (ms : List ScaledMetric) → 0 < length ms → ArePrintableMetrics ms → IsPrintableMetric (get_or ms 0 no_metric)
first_printable [] some h = absurd (omega (arith, some))
first_printable (m ∷ ms) some h = h.0

name_more : (names : List (List ℕ)) (w : List ℕ) → list_all is_name names ≡ true → is_name w ≡ true → list_all is_name (names ++ w ∷ []) ≡ true
name_more [] w h k = rw k refl
name_more (x ∷ names) w h k =
    let p = and_parts (is_name x) (list_all is_name names) h in
    rw p.0 (name_more names w p.1 k)

with_name_named : (names : List (List ℕ)) (w : List ℕ) → list_all is_name names ≡ true → is_name w ≡ true → list_all is_name (with_name names w) ≡ true
with_name_named names w h k = by (list_any (same_word w) names) refl
  where
    by : (b : Bool) → list_any (same_word w) names ≡ b → list_all is_name (with_name names w) ≡ true
    by true e = ap (list_all is_name) (with-old names w e) ∙ h
    by false e = ap (list_all is_name) (with-new names w e) ∙ name_more names w h k

are_named : (names : List (List ℕ)) (held : List AtomLine) → list_all is_name names ≡ true → ArePrintableAtoms held → list_all is_name (fold (λ ns a. with_name ns a.name) names held) ≡ true
are_named names [] h all = h
are_named names (a ∷ held) h all = are_named (with_name names a.name) held (with_name_named names a.name h all.0.name) all.1

positions_lowest : (held : List AtomLine) → ArePrintableAtoms held → Each IsLowest (positions held)
unfolding positions
positions_lowest [] all = tt
positions_lowest (a ∷ held) all = let p = all.0.position in (p.0, (p.1.0, (p.1.1.0, positions_lowest held all.1)))

moments_lowest : (held : List AtomLine) → ArePrintableAtoms held → Each IsLowest (moments held)
unfolding moments
moments_lowest [] all = tt
moments_lowest (a ∷ held) all = let p = all.0.moment in (p.0, (p.1.0, (p.1.1.0, moments_lowest held all.1)))

module _ (names : List (List ℕ)) (n k : ℕ) where
  -- what divides n and all coordinates modulo n divides all coordinates
  positions_divided : (g : ℕ) (held : List AtomLine) → g ∣ n → AllDivisible g (all_positions (map (atom_of names n k) held)) → Each (λ f. g ∣ unsigned_abs (scaled n f)) (positions held)
  unfolding positions
  positions_divided g [] h all = tt
  positions_divided g (a ∷ held) h all = (
    residue_divisor n g (scaled n a.x) h all.0,
    (residue_divisor n g (scaled n a.y) h all.1.0, (residue_divisor n g (scaled n a.z) h all.1.1.0, positions_divided g held h all.1.1.1)),
  )

  moments_divided : (g : ℕ) (held : List AtomLine) → AllDivisible g (all_moments (map (atom_of names n k) held)) → Each (λ f. g ∣ unsigned_abs (scaled k f)) (moments held)
  unfolding moments
  moments_divided g [] all = tt
  moments_divided g (a ∷ held) all = (all.0, (all.1.0, (all.1.1.0, moments_divided g held all.1.1.1)))

  -- moments are within their limit
  moments_at_most : (held : List AtomLine) → list_all (λ (m : Fraction). is_billion (scaled k m)) (moments held) ≡ true → AreAtMost (10 ^ 9) (all_moments (map (atom_of names n k) held))
  unfolding moments
  moments_at_most [] e = tt
  moments_at_most (a ∷ held) e =
      let p = and_parts (is_billion (scaled k a.ma)) _ e in
      let q = and_parts (is_billion (scaled k a.mb)) _ p.1 in
      let r = and_parts (is_billion (scaled k a.mc)) _ q.1 in
      let small : (z : ℤ) → is_billion z ≡ true → unsigned_abs z ≤ 10 ^ 9 = λ z h. leb-true (unsigned_abs z) 1000000000 h in
      (small (scaled k a.ma) p.0, (small (scaled k a.mb) q.0, (small (scaled k a.mc) r.0, moments_at_most held r.1)))

in_range : (held : List AtomLine) → are_moments_in_range held ≡ true → list_all (λ (m : Fraction). is_billion (scaled (common_denominator (moments held)) m)) (moments held) ≡ true
unfolding are_moments_in_range
in_range held e = (and_parts (nat_le (common_denominator (moments held)) 1000000) _ e).1

scale_fits : (scale : ℕ) → scale ≤ 10 ^ 9 → pos scale ≤ℤ pos (10 ^ 9)
scale_fits scale h = omega (arith, ints, h)

contents_printable : (held : Contents) → HoldsPrintable held → 0 < length held.metrics → AreByFirstUse 0 (length (cell_with held).names) (cell_with held).atoms → IsPrintable (cell_with held)
unfolding cell_with names_of
contents_printable held h some numbered =
    let m = first_printable held.metrics some h.metrics in
    let names = names_of held.atoms in
    let n = common_denominator (positions held.atoms) in
    let k = common_denominator (moments held.atoms) in
    let ps = all_positions (map (atom_of names n k) held.atoms) in
    let ms = all_moments (map (atom_of names n k) held.atoms) in
    record {
      least_scale = m.least;
      least_n = least_unit (positions held.atoms) (positions_lowest held.atoms h.atoms) (divisor_with n ps) (divisor-start n ps) (positions_divided names n k (divisor_with n ps) held.atoms (divisor-start n ps) (divisor-each n ps));
      least_k = least_unit (moments held.atoms) (moments_lowest held.atoms h.atoms) (divisor_with k ms) (divisor-start k ms) (moments_divided names n k (divisor_with k ms) held.atoms (divisor-each k ms));
      scale = scale_fits _ m.scale;
      metric = m.entries;
      moments = moments_at_most names n k held.atoms (in_range held.atoms h.moments);
      names = are_named [] held.atoms refl h.atoms;
      species = numbered;
    }

-- a cell that a text spells is printable
pub spelled_printable : (text : List ℕ) (c : Structure) → Spells text c → IsPrintable c
spelled_printable text c spelled =
    let held = contents (lines text) in
    let holds = text_holds HoldsPrintable later_printable nothing_printable text spelled.faultless in
    subst IsPrintable (sym spelled.is) (contents_printable held holds (holds.some (text_ends text spelled.faultless)) (spelled_numbered text (cell_with held) (record { faultless = spelled.faultless; is = refl })))
