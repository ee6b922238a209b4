-- What the printed lines say: the metric tensor and the atoms of the cell.
use Rattle.std.proofs.Common.{◌≡◌, ℕ, zero, suc, ◌^◌, ◌<◌, ◌≤◌, Bool, true, false, List, [], ◌∷◌, ◌++◌, length, map, None, refl, sym, ap, ◌∙◌, arith}
use Rattle.std.specs.Prelude.{ℤ, pos, negsuc, ◌<ℤ◌, unsigned_abs, ◌&&◌, ◌||◌, ◌==◌, int_lt, nat_le, if◌then◌else◌}
use Rattle.std.specs.List.{list_all}
use Rattle.std.proofs.lemmas.Bool.{le-leb, lt-ltb, and_parts, and_from}
use Rattle.std.proofs.lemmas.Int.{ints}
use Rattle.crystal_spec.specs.declared.MomentKind.{MomentKind}
use Rattle.crystal_spec.specs.Matrices.{Triple, Matrix}
use Rattle.crystal_spec.specs.Moments.{IsOfKind}
use Rattle.crystal_spec.specs.Crystals.{Atom, Structure, IsPositive}
use Rattle.crystal.specs.Cells.{IsSymmetric}
use Rattle.crystal.specs.Names.{is_name}
use Rattle.numbers.specs.Fraction.{Fraction}
use Rattle.plain_text.specs.NumberWords.{scaled, common_denominator, number_value}
use Rattle.plain_text.specs.FirstFaults.{first_of}
use Rattle.cell_text.specs.declared.version.Version.{Version}
use Rattle.cell_text.specs.Lines.{number_form, word_fault, metric_entry, atom_entry, behind_atom, entry_of_words, entry_of}
use Rattle.cell_text.specs.Entries.{AtomLine, ScaledMetric, values, nothing, number_at, atom_line_of, scaled_tensor, metric_of, symmetric, is_billion, is_metric_in_range, is_positive}
use Rattle.cell_text.specs.Rules.{are_numbers_of}
use Rattle.cell_print.specs.CellFileText.{scalar_products, coordinates, is_zero, is_nothing, moment_numbers}
use Rattle.cell_print.specs.Printable.{divisor_with, AreAtMost}
use Rattle.plain_text.specs.NumberText.{number_text}
use Rattle.cell_text.proofs.WordFaults.{word_passes}
use Rattle.plain_text.proofs.NumberWords.{reduced, number_text-value, number_text-no_fault}
use Rattle.cell_print.proofs.TextCuts.{AreSmall, number_texts}
use Rattle.cell_print.proofs.CommonDenominators.{common_denominator-reduced, scaled-reduced, reduced-zero}
use Rattle.cell_print.proofs.FirstLines.{kind_as}
use Rattle.cell_print.proofs.PrintedLines.{metric_line, atom_line, name_of, moment_words, IsPlain, atom_line-words, metric_line-words}

-- ---- numbers

-- Printed numbers are read as they are.
pub number_texts-values : (d : ℕ) (zs : List ℤ) → 0 < d → d < 10 ^ 18 → AreSmall zs → map number_value (number_texts d zs) ≡ map (reduced d) zs
number_texts-values d [] some h small = refl
number_texts-values d (z ∷ zs) some h small =
    ap (λ (f : Fraction). f ∷ map number_value (number_texts d zs)) (number_text-value z d some small.0 h) ∙ ap (λ (fs : List Fraction). reduced d z ∷ fs) (number_texts-values d zs some h small.1)

-- No printed number has a fault, in either version.
pub number_texts-no_fault : (version : Version) (d : ℕ) (zs : List ℤ) (ws : List (List ℕ)) → 0 < d → d < 10 ^ 18 → AreSmall zs → first_of (map (word_fault version) ws) ≡ None → first_of (map (word_fault version) (number_texts d zs ++ ws)) ≡ None
number_texts-no_fault version d [] ws some h small e = e
number_texts-no_fault version d (z ∷ zs) ws some h small e = rw (word_passes version (number_text z d) (number_text-no_fault (number_form version) z d some small.0 h)) (number_texts-no_fault version d zs ws some h small.1 e)

-- ---- the metric line

-- the metric tensor with its scale
abbrev pub metric_held : Structure → ScaledMetric
metric_held c = record { scale = unsigned_abs c.scale; entries = c.metric }

-- What is known of the metric tensor.
pub record IsPlainMetric (c : Structure) : Type 0 where
  pub some : 0 < unsigned_abs c.scale
  pub small_scale : unsigned_abs c.scale ≤ 10 ^ 9
  pub small : AreSmall (scalar_products c.metric)
  pub at_most : AreAtMost (10 ^ 9) (scalar_products c.metric)
  pub least : divisor_with (unsigned_abs c.scale) (scalar_products c.metric) ≡ 1
  pub same : IsSymmetric c.metric
  pub positive : IsPositive c.metric

-- the number words of the metric line
abbrev pub metric_words : Structure → List (List ℕ)
metric_words c = number_texts (unsigned_abs c.scale) (scalar_products c.metric)

metric_values-read : (c : Structure) → IsPlainMetric c → values (metric_words c) ≡ map (reduced (unsigned_abs c.scale)) (scalar_products c.metric)
metric_values-read c h = number_texts-values (unsigned_abs c.scale) (scalar_products c.metric) h.some (omega (arith, h.small_scale)) h.small

scale-read : (c : Structure) → IsPlainMetric c → common_denominator (map (reduced (unsigned_abs c.scale)) (scalar_products c.metric)) ≡ unsigned_abs c.scale
scale-read c h = common_denominator-reduced (unsigned_abs c.scale) (scalar_products c.metric) h.some h.least

-- The metric line says the metric tensor.
pub metric_line-read : (c : Structure) → IsPlainMetric c → metric_of (values (metric_words c)) ≡ metric_held c
metric_line-read c h =
    let d = unsigned_abs c.scale in
    let g = c.metric in
    ap (λ (fs : List Fraction). scaled_tensor (common_denominator fs) fs) (metric_values-read c h)
    ∙ ap (λ (m : ℕ). scaled_tensor m (map (reduced d) (scalar_products g))) (scale-read c h)
    ∙ entries (scaled-reduced d g.a11 h.some) (scaled-reduced d g.a22 h.some) (scaled-reduced d g.a33 h.some) (scaled-reduced d g.a23 h.some) (scaled-reduced d g.a13 h.some) (scaled-reduced d g.a12 h.some)
    ∙ mirrored
  where
    made : ℕ → ℤ → ℤ → ℤ → ℤ → ℤ → ℤ → ScaledMetric
    made d aa bb cc bc ac ab = record { scale = d; entries = symmetric aa bb cc bc ac ab }

    entries : {d : ℕ} {aa bb cc bc ac ab aa' bb' cc' bc' ac' ab' : ℤ} → aa ≡ aa' → bb ≡ bb' → cc ≡ cc' → bc ≡ bc' → ac ≡ ac' → ab ≡ ab' → made d aa bb cc bc ac ab ≡ made d aa' bb' cc' bc' ac' ab'
    entries {d} e1 e2 e3 e4 e5 e6 = λ i. made d (e1 i) (e2 i) (e3 i) (e4 i) (e5 i) (e6 i)

    mirrored : made (unsigned_abs c.scale) c.metric.a11 c.metric.a22 c.metric.a33 c.metric.a23 c.metric.a13 c.metric.a12 ≡ metric_held c
    mirrored = λ i. record { scale = unsigned_abs c.scale; entries = record { a11 = c.metric.a11; a12 = c.metric.a12; a13 = c.metric.a13; a21 = sym h.same.ab i; a22 = c.metric.a22; a23 = c.metric.a23; a31 = sym h.same.ac i; a32 = sym h.same.bc i; a33 = c.metric.a33 } }

billions : (d : ℕ) (zs : List ℤ) → 0 < d → AreAtMost (10 ^ 9) zs → list_all (λ f. is_billion (scaled d f)) (map (reduced d) zs) ≡ true
billions d [] some h = refl
billions d (z ∷ zs) some h =
    and_from (is_billion (scaled d (reduced d z))) _ (ap is_billion (scaled-reduced d z some) ∙ le-leb (unsigned_abs z) 1000000000 (omega (arith, h.0))) (billions d zs some h.1)

-- It is within its limits.
pub metric_line-in_range : (c : Structure) → IsPlainMetric c → is_metric_in_range (values (metric_words c)) ≡ true
unfolding is_metric_in_range
metric_line-in_range c h =
    let d = unsigned_abs c.scale in
    ap (λ (fs : List Fraction). nat_le (common_denominator fs) 1000000000 && list_all (λ f. is_billion (scaled (common_denominator fs) f)) fs) (metric_values-read c h)
    ∙ ap (λ (m : ℕ). nat_le m 1000000000 && list_all (λ f. is_billion (scaled m f)) (map (reduced d) (scalar_products c.metric))) (scale-read c h)
    ∙ and_from (nat_le d 1000000000) _ (le-leb d 1000000000 (omega (arith, h.small_scale))) (billions d (scalar_products c.metric) h.some h.at_most)

above : (z : ℤ) → pos 0 <ℤ z → int_lt (pos 0) z ≡ true
above (pos zero) h = absurd (omega (arith, ints))
above (pos (suc n)) h = lt-ltb 0 (suc n) (omega arith)
above (negsuc n) h = absurd (omega (arith, ints))

positive-test : (g : Matrix) → IsPositive g → is_positive g ≡ true
unfolding is_positive
positive-test g h = and_from _ _ (and_from _ _ (above _ h.first) (above _ h.second)) (above _ h.third)

-- Its metric tensor is positive.
pub metric_line-positive : (c : Structure) → IsPlainMetric c → is_positive (metric_of (values (metric_words c))).entries ≡ true
metric_line-positive c h = ap (λ (m : ScaledMetric). is_positive m.entries) (metric_line-read c h) ∙ positive-test c.metric h.positive

-- It is a metric line, in each version.
pub metric_line-is : (version : Version) (c : Structure) → IsPlainMetric c → entry_of version (metric_line c) ≡ metric_entry (metric_words c)
unfolding entry_of
metric_line-is version c h = ap (entry_of_words version) (metric_line-words c (omega (arith, h.small_scale)) h.small)

-- Its words are numbers.
pub metric_line-no_fault : (version : Version) (c : Structure) → IsPlainMetric c → first_of (map (word_fault version) (metric_words c)) ≡ None
metric_line-no_fault version c h = number_texts-no_fault version (unsigned_abs c.scale) (scalar_products c.metric) [] h.some (omega (arith, h.small_scale)) h.small refl

-- ---- atom lines

-- the atom as a line of the cell file says it
abbrev pub entry : Structure → Atom → AtomLine
entry c s = record {
  name = name_of c s;
  x = reduced c.n s.position.x;
  y = reduced c.n s.position.y;
  z = reduced c.n s.position.z;
  ma = reduced c.k s.moment.x;
  mb = reduced c.k s.moment.y;
  mc = reduced c.k s.moment.z;
}

-- the units of positions and moments
pub record HasUnits (c : Structure) : Type 0 where
  pub some_n : 0 < c.n
  pub some_k : 0 < c.k
  pub small_n : c.n ≤ 10 ^ 6
  pub small_k : c.k ≤ 10 ^ 6

-- the values of a moment
abbrev moment_values : List Fraction → List Fraction
moment_values fs = number_at fs 0 ∷ number_at fs 1 ∷ number_at fs 2 ∷ []

zero_is : (z : ℤ) → is_zero z ≡ true → z ≡ pos 0
zero_is (pos zero) e = refl
zero_is (pos (suc n)) e = absurd cc
zero_is (negsuc n) e = absurd cc

-- the number of a scalar, and 0 for the two others
scalar-values : (k : ℕ) (m : Triple) → 0 < k → k < 10 ^ 18 → AreSmall (coordinates m) → m.y ≡ pos 0 → m.z ≡ pos 0 → moment_values (values (number_texts k (m.x ∷ []))) ≡ map (reduced k) (coordinates m)
scalar-values k m some h small y_none z_none =
    let y : nothing ≡ reduced k m.y = sym (reduced-zero k some) ∙ ap (reduced k) (sym y_none) in
    let z : nothing ≡ reduced k m.z = sym (reduced-zero k some) ∙ ap (reduced k) (sym z_none) in
    ap moment_values (number_texts-values k (m.x ∷ []) some h (small.0, tt)) ∙ (λ i. reduced k m.x ∷ y i ∷ z i ∷ [])

numbers-values : (kind : MomentKind) (k : ℕ) (m : Triple) → 0 < k → k < 10 ^ 18 → AreSmall (coordinates m) → IsOfKind kind m → moment_values (values (number_texts k (moment_numbers kind m))) ≡ map (reduced k) (coordinates m)
numbers-values kind k m some h small of_kind = by kind.vector refl
  where
    by : (vector : Bool) → kind.vector ≡ vector → moment_values (values (number_texts k (if vector then coordinates m else m.x ∷ []))) ≡ map (reduced k) (coordinates m)
    by true e = number_texts-values k (coordinates m) some h small
    by false e = scalar-values k m some h small (of_kind e).0 (of_kind e).1

moment_words-values : (kind : MomentKind) (k : ℕ) (m : Triple) → 0 < k → k < 10 ^ 18 → AreSmall (coordinates m) → IsOfKind kind m → moment_values (values (moment_words kind k m)) ≡ map (reduced k) (coordinates m)
moment_words-values kind k m some h small of_kind = by (is_nothing m) refl
  where
    by : (b : Bool) → is_nothing m ≡ b → moment_values (values (if b then [] else number_texts k (moment_numbers kind m))) ≡ map (reduced k) (coordinates m)
    by true e =
        let p = and_parts (is_zero m.x && is_zero m.y) (is_zero m.z) e in
        let q = and_parts (is_zero m.x) (is_zero m.y) p.0 in
        let x = sym (reduced-zero k some) ∙ ap (reduced k) (sym (zero_is m.x q.0)) in
        let y = sym (reduced-zero k some) ∙ ap (reduced k) (sym (zero_is m.y q.1)) in
        let z = sym (reduced-zero k some) ∙ ap (reduced k) (sym (zero_is m.z p.1)) in
        λ i. x i ∷ y i ∷ z i ∷ []
    by false e = numbers-values kind k m some h small of_kind

-- the number words of an atom line
abbrev pub atom_words : Structure → Atom → List (List ℕ)
atom_words c s = number_texts c.n (coordinates s.position) ++ moment_words c.kind c.k s.moment

-- the atom of these values
abbrev of_values : List ℕ → List Fraction → List Fraction → AtomLine
of_values name ps ms = record { name = name; x = number_at ps 0; y = number_at ps 1; z = number_at ps 2; ma = number_at ms 0; mb = number_at ms 1; mc = number_at ms 2 }

-- An atom line says the atom.
pub atom_line-read : (c : Structure) (s : Atom) → HasUnits c → IsPlain c s → atom_line_of (name_of c s) (values (atom_words c s)) ≡ entry c s
atom_line-read c s units plain =
    ap (λ (ps : List Fraction). of_values (name_of c s) ps (moment_values (values (moment_words c.kind c.k s.moment)))) (number_texts-values c.n (coordinates s.position) units.some_n (omega (arith, units.small_n)) plain.position)
    ∙ ap (λ (ms : List Fraction). of_values (name_of c s) (map (reduced c.n) (coordinates s.position)) ms) (moment_words-values c.kind c.k s.moment units.some_k (omega (arith, units.small_k)) plain.moment plain.of_kind)

numbers-no_fault : (version : Version) (kind : MomentKind) (k : ℕ) (m : Triple) → 0 < k → k < 10 ^ 18 → AreSmall (coordinates m) → first_of (map (word_fault version) (number_texts k (moment_numbers kind m))) ≡ None
numbers-no_fault version kind k m some h small = by kind.vector
  where
    by : (vector : Bool) → first_of (map (word_fault version) (number_texts k (if vector then coordinates m else m.x ∷ []))) ≡ None
    by true = number_texts-no_fault version k (coordinates m) [] some h small refl
    by false = number_texts-no_fault version k (m.x ∷ []) [] some h (small.0, tt) refl

-- Its words behind the name are numbers.
pub atom_line-no_fault : (version : Version) (c : Structure) (s : Atom) → HasUnits c → IsPlain c s → first_of (map (word_fault version) (atom_words c s)) ≡ None
atom_line-no_fault version c s units plain =
    number_texts-no_fault version c.n (coordinates s.position) (moment_words c.kind c.k s.moment) units.some_n (omega (arith, units.small_n)) plain.position (by (is_nothing s.moment))
  where
    by : (b : Bool) → first_of (map (word_fault version) (if b then [] else number_texts c.k (moment_numbers c.kind s.moment))) ≡ None
    by true = refl
    by false = numbers-no_fault version c.kind c.k s.moment units.some_k (omega (arith, units.small_k)) plain.moment

-- what is known of how many words there are behind the name
record HasCount (kind : MomentKind) (ws : List (List ℕ)) : Type 0 where
  pub of_any : (length ws == 3 || length ws == 4 || length ws == 6) ≡ true
  pub of_kind : are_numbers_of kind (length ws) ≡ true

-- the words behind the name, where the moment is 0 or not and a vector or not
abbrev words_by : Structure → Atom → Bool → Bool → List (List ℕ)
words_by c s none vector = number_texts c.n (coordinates s.position) ++ (if none then [] else number_texts c.k (if vector then coordinates s.moment else s.moment.x ∷ []))

count_by : (c : Structure) (s : Atom) (none vector axial : Bool) → HasCount (kind_as vector axial) (words_by c s none vector)
count_by c s true vector axial = record { of_any = refl; of_kind = refl }
count_by c s false true axial = record { of_any = refl; of_kind = refl }
count_by c s false false axial = record { of_any = refl; of_kind = refl }

count_is : (c : Structure) (s : Atom) → HasCount c.kind (atom_words c s)
count_is c s = count_by c s (is_nothing s.moment) c.kind.vector c.kind.axial

-- They are as many as the kind asks.
pub atom_line-count : (c : Structure) (s : Atom) → are_numbers_of c.kind (length (atom_words c s)) ≡ true
atom_line-count c s = (count_is c s).of_kind

named : (name : List ℕ) (ws : List (List ℕ)) → is_name name ≡ true → (length ws == 3 || length ws == 4 || length ws == 6) ≡ true → behind_atom (name ∷ ws) ≡ atom_entry name ws
named name ws e f = rw (e, f) refl

-- It is an atom line, in each version.
pub atom_line-is : (version : Version) (c : Structure) (s : Atom) → HasUnits c → IsPlain c s → entry_of version (atom_line c s) ≡ atom_entry (name_of c s) (atom_words c s)
unfolding entry_of
atom_line-is version c s units plain =
    ap (entry_of_words version) (atom_line-words c s (omega (arith, units.small_n)) (omega (arith, units.small_k)) plain)
    ∙ named (name_of c s) (atom_words c s) plain.name (count_is c s).of_any
