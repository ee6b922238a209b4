-- The sizes of a cell that a cell file spells. No line breaks a rule, so behind each line the metric tensors that were given
-- have scales and entries up to 10^9, and the moments have sizes up to 10^9 in units of 1/k.
use Rattle.std.proofs.Common.{◌≡◌, ℕ, ◌^◌, ◌≤◌, Bool, true, List, [], ◌∷◌, ◌++◌, map, get_or, None, inl, inr, refl, sym, subst, arith}
use Rattle.std.specs.Prelude.{pos, nat_le}
use Rattle.std.specs.List.{list_all}
use Rattle.std.proofs.lemmas.Bool.{leb-true, and_parts}
use Rattle.std.proofs.lemmas.Int.{ints}
use Rattle.ring.specs.Size.{AtMost}
use Rattle.lists.specs.Increasing.{IsMember}
use Rattle.crystal_spec.specs.Crystals.{Atom, Structure}
use Rattle.matrix3.specs.Bounds.{EntriesAtMost, CoordinatesAtMost}
use Rattle.plain_text.specs.Text.{lines}
use Rattle.numbers.specs.Fraction.{Fraction}
use Rattle.plain_text.specs.NumberWords.{common_denominator, scaled}
use Rattle.cell_text.specs.declared.version.Version.{Version}
use Rattle.cell_text.specs.Lines.{Entry, skipped, metric_entry, atom_entry, end_entry, kind_entry, other_entry}
use Rattle.cell_text.specs.Entries.{AtomLine, ScaledMetric, Contents, values, number_at, metric_of, with_entry, state_after, contents, moments, is_billion, is_metric_in_range, are_moments_in_range}
use Rattle.cell_text.specs.Rules.{entry_fault, cell_fault}
use Rattle.cell_text.specs.CellFile.{Spells, cell_with, names_of, atom_of, no_metric}
use Rattle.cell_text.proofs.PassedLines.{metric_fits, moments_fit, text_holds}
use Rattle.cell_text.proofs.Judging.{IsEntry}
use Rattle.cell_text.proofs.MetricLines.{at_most, number_billion}
use Rattle.crystal.specs.Sizes.{HasSizesOfRead}

-- ---- what the contents are

-- scale and entries are within 10^9
abbrev IsSmallMetric : ScaledMetric → Type 0
IsSmallMetric m = (m.scale ≤ 10 ^ 9) × EntriesAtMost (10 ^ 9) m.entries

abbrev AreSmallMetrics : List ScaledMetric → Type 0
AreSmallMetrics [] = Unit {0}
AreSmallMetrics (m ∷ ms) = IsSmallMetric m × AreSmallMetrics ms

-- the metric tensors and moments of some lines
record HoldsSmall (held : Contents) : Type 0 where
  pub metrics : AreSmallMetrics held.metrics
  pub moments : are_moments_in_range held.atoms ≡ true

metric_small : (fs : List Fraction) → is_metric_in_range fs ≡ true → IsSmallMetric (metric_of fs)
unfolding is_metric_in_range
metric_small fs e =
    let d = common_denominator fs in
    let p = and_parts (nat_le d 1000000000) (list_all (λ (f : Fraction). is_billion (scaled d f)) fs) e in
    let at : (i : ℕ) → AtMost 1000000000 (scaled d (number_at fs i)) = λ i. at_most (scaled d (number_at fs i)) (number_billion d fs i p.1) in
    (leb-true d 1000000000 p.0, record { a11 = at 0; a12 = at 5; a13 = at 4; a21 = at 5; a22 = at 1; a23 = at 3; a31 = at 4; a32 = at 3; a33 = at 2 })

metrics-append : (ms : List ScaledMetric) (m : ScaledMetric) → AreSmallMetrics ms → IsSmallMetric m → AreSmallMetrics (ms ++ m ∷ [])
metrics-append [] m small one = (one, tt)
metrics-append (x ∷ ms) m small one = (small.0, metrics-append ms m small.1 one)

-- ---- a line that breaks no rule

later_small : (version : Version) (held : Contents) (entry : Entry) → IsEntry entry → entry_fault version held entry ≡ None → HoldsSmall held → HoldsSmall (with_entry held entry)
later_small version held skipped n e small = small
later_small version held (metric_entry ws) n e small = record {
  metrics = metrics-append held.metrics (metric_of (values ws)) small.metrics (metric_small (values ws) (metric_fits version held ws e));
  moments = small.moments;
}
later_small version held (atom_entry name ws) n e small = record { metrics = small.metrics; moments = moments_fit version held name ws e }
later_small version held end_entry n e small = record { metrics = small.metrics; moments = small.moments }
later_small version held (kind_entry kind) n e small = record { metrics = small.metrics; moments = small.moments }
later_small version held other_entry n e small = absurd cc

-- ---- all lines

nothing_small : HoldsSmall (contents [])
unfolding state_after are_moments_in_range moments
nothing_small = record { metrics = tt; moments = refl }

text_small : (text : List ℕ) → cell_fault text ≡ None → HoldsSmall (contents (lines text))
text_small text e = text_holds HoldsSmall later_small nothing_small text e

-- ---- the cell

zero_small : (n : ℕ) → AtMost n (pos 0)
zero_small n = record { size = omega arith }

no_metric-small : IsSmallMetric no_metric
no_metric-small =
    let z = zero_small (10 ^ 9) in
    (omega arith, record { a11 = z; a12 = z; a13 = z; a21 = z; a22 = z; a23 = z; a31 = z; a32 = z; a33 = z })

first_small : (ms : List ScaledMetric) → AreSmallMetrics ms → IsSmallMetric (get_or ms 0 no_metric)
first_small [] small = no_metric-small
first_small (m ∷ ms) small = small.0

-- all moments are within the bound
abbrev are_small : ℕ → List AtomLine → Bool
are_small k xs = list_all (λ (m : Fraction). is_billion (scaled k m)) (moments xs)

atom_small : (names : List (List ℕ)) (n k : ℕ) (x : AtomLine) (xs : List AtomLine) → are_small k (x ∷ xs) ≡ true → CoordinatesAtMost (10 ^ 9) (atom_of names n k x).moment × (are_small k xs ≡ true)
unfolding moments
atom_small names n k x xs e =
    let p = and_parts (is_billion (scaled k x.ma)) _ e in
    let q = and_parts (is_billion (scaled k x.mb)) _ p.1 in
    let r = and_parts (is_billion (scaled k x.mc)) (are_small k xs) q.1 in
    (record { x = at_most (scaled k x.ma) p.0; y = at_most (scaled k x.mb) q.0; z = at_most (scaled k x.mc) r.0 }, r.1)

atoms_small : (names : List (List ℕ)) (n k : ℕ) (xs : List AtomLine) → are_small k xs ≡ true → (a : Atom) → IsMember a (map (atom_of names n k) xs) → CoordinatesAtMost (10 ^ 9) a.moment
atoms_small names n k [] e a m = absurd m
atoms_small names n k (x ∷ xs) e a (inl same) = subst (λ (s : Atom). CoordinatesAtMost (10 ^ 9) s.moment) (sym same) (atom_small names n k x xs e).0
atoms_small names n k (x ∷ xs) e a (inr m) = atoms_small names n k xs (atom_small names n k x xs e).1 a m

moments_small : (xs : List AtomLine) → are_moments_in_range xs ≡ true → are_small (common_denominator (moments xs)) xs ≡ true
unfolding are_moments_in_range
moments_small xs e = (and_parts (nat_le (common_denominator (moments xs)) 1000000) (are_small (common_denominator (moments xs)) xs) e).1

contents_sizes : (held : Contents) → HoldsSmall held → HasSizesOfRead (cell_with held)
unfolding cell_with
contents_sizes held small =
    let first = first_small held.metrics small.metrics in
    record {
      scale = omega (arith, ints, first.0);
      metric = first.1;
      moments = atoms_small (names_of held.atoms) _ (common_denominator (moments held.atoms)) held.atoms (moments_small held.atoms small.moments);
    }

-- A cell that a text spells has the sizes of one that was read.
pub spelled_sizes : (text : List ℕ) (c : Structure) → Spells text c → HasSizesOfRead c
spelled_sizes text c spelled =
    subst HasSizesOfRead (sym spelled.is) (contents_sizes (contents (lines text)) (text_small text spelled.faultless))
