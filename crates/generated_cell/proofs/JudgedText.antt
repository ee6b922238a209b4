-- No line of a generated text breaks a rule, and the lines hold the cell.
--
-- The nodes of the grid stand in the order of 64 i + 8 j + k, so each comes behind other nodes alone, and no two atoms share a
-- position. Each coordinate is in units of 1/8, and each moment in units of 1.
use Rattle.std.proofs.Common.{◌≡◌, ℕ, zero, suc, ◌+◌, ◌*◌, ◌<◌, ◌≤◌, Bool, true, false, Option, Some, None, List, [], ◌∷◌, ◌++◌, length, map, refl, sym, ap, ◌∙◌, arith, append-nil, append_assoc, length-append}
use Rattle.std.specs.Prelude.{ℤ, pos, ◌&&◌, not, nat_le, nat_lt, codes}
use Rattle.std.specs.List.{list_all, flat_map}
use Rattle.std.proofs.lemmas.Bool.{le-leb, lt-leb, leb-true, ltb-true, and_parts, and_from, ne_eqb, false_from_ne_true}
use Rattle.std.proofs.lemmas.List.{map-append, length-map}
use Rattle.std.proofs.lemmas.Nat.Gcd.{le_of_dvd}
use Rattle.numbers.specs.Gcd.{gcd, lcm}
use Rattle.numbers.specs.Fraction.{Fraction, whole, lowest}
use Rattle.plain_text.specs.FirstFaults.{first_of, when}
use Rattle.plain_text.specs.NumberWords.{number_fault, number_value, scaled, common_denominator, is_same_modulo_1}
use Rattle.plain_text.specs.Text.{has_bad_byte}
use Rattle.plain_text.proofs.NumberWords.{reduced}
use Rattle.crystal.specs.declared.limits.TheConstants.{MOST_ATOMS}
use Rattle.cell_text.specs.declared.fault.CellFault.{CellFault}
use Rattle.cell_text.specs.declared.fault.CellFault.TheVariants.{BadLine, TooManyAtoms, PositionRange, MomentRange, BadByte, AfterEnd}
use Rattle.cell_text.specs.declared.version.Version.TheVariants.{One}
use Rattle.cell_text.specs.Lines.{end_word, word_fault, version_of, Entry, end_entry, entry_of}
use Rattle.cell_text.specs.Entries.{AtomLine, ScaledMetric, Contents, State, state_with, with_atom, with_entry, with_line, state_after, contents, positions, moments, is_billion, is_metric_in_range, is_positive, are_positions_in_range, are_moments_in_range, is_same_place, symmetric}
use Rattle.cell_text.specs.Rules.{same_place, same_place_from, heading_fault, metric_fault, place_fault, atom_fault, end_fault, later_fault, judged, fault_after, fault_at_end, first_fault}
use Rattle.cell_text.proofs.Judging.{state_after-more}
use Rattle.cell_print.proofs.TextCuts.{line-no_bad_byte}
use Rattle.cell_print.proofs.CommonDenominators.{common_denominator-divides}
use Rattle.generated_cell.specs.GeneratedText.{Node, nodes, row_of, plane_of, draw_at, atom_line}
use Rattle.generated_cell.specs.GeneratedCell.{component}
use Rattle.generated_cell.proofs.Eighths.{eighth, eighth-same}
use Rattle.generated_cell.proofs.AtomLines.{InGrid, atom_words, atom_at, atom_line-is, atom_line-count, atom_line-no_fault, atom_line-read, atom_line-bytes}

-- ---- the order of the nodes

-- the number of a node
abbrev pub number_of : Node → ℕ
number_of v = 64 * v.i + 8 * v.j + v.k

-- nodes of the grid, each with a number from m on and above those before it
abbrev pub AreRising : ℕ → List Node → Type 0
AreRising m [] = Unit {0}
AreRising m (v ∷ vs) = (InGrid v × (m ≤ number_of v)) × AreRising (number_of v + 1) vs

-- nodes of the grid with numbers below m
abbrev pub AreBelow : ℕ → List Node → Type 0
AreBelow m [] = Unit {0}
AreBelow m (v ∷ vs) = (InGrid v × (number_of v < m)) × AreBelow m vs

-- the same as a test
abbrev are_rising : ℕ → List Node → Bool
are_rising m [] = true
are_rising m (v ∷ vs) = (((nat_lt v.i 8 && nat_lt v.j 8) && nat_lt v.k 8) && nat_le m (number_of v)) && are_rising (number_of v + 1) vs

rising-test : (m : ℕ) (vs : List Node) → are_rising m vs ≡ true → AreRising m vs
rising-test m [] e = tt
rising-test m (v ∷ vs) e =
    let p = and_parts _ (are_rising (number_of v + 1) vs) e in
    let q = and_parts _ (nat_le m (number_of v)) p.0 in
    let r = and_parts (nat_lt v.i 8 && nat_lt v.j 8) (nat_lt v.k 8) q.0 in
    let s = and_parts (nat_lt v.i 8) (nat_lt v.j 8) r.0 in
    ((record { i = ltb-true v.i 8 s.0; j = ltb-true v.j 8 s.1; k = ltb-true v.k 8 r.1 }, leb-true m (number_of v) q.1), rising-test (number_of v + 1) vs p.1)

-- The nodes stand in the order of their numbers.
pub nodes-rising : AreRising 0 nodes
unfolding nodes plane_of row_of
nodes-rising = rising-test 0 nodes refl

-- There are 512.
pub nodes-count : length nodes ≡ 512
unfolding nodes plane_of row_of
nodes-count = refl

below-later : (m n : ℕ) (vs : List Node) → m ≤ n → AreBelow m vs → AreBelow n vs
below-later m n [] h below = tt
below-later m n (v ∷ vs) h below = ((below.0.0, omega (arith, h, below.0.1)), below-later m n vs h below.1)

below-more : (m : ℕ) (vs : List Node) (v : Node) → AreBelow m vs → InGrid v → m ≤ number_of v → AreBelow (number_of v + 1) (vs ++ v ∷ [])
below-more m [] v below in_grid h = ((in_grid, omega arith), tt)
below-more m (w ∷ vs) v below in_grid h = ((below.0.0, omega (arith, below.0.1, h)), below-more m vs v below.1 in_grid h)

-- ---- positions

same_numbers : (a b : Node) → a.i ≡ b.i → a.j ≡ b.j → a.k ≡ b.k → number_of a < number_of b → ⊥
same_numbers a b ei ej ek h = omega (arith, ei, ej, ek, h)

atoms-apart : (ds : List ℕ) (a b : Node) → InGrid a → InGrid b → number_of a < number_of b → is_same_place (atom_at ds a) (atom_at ds b) ≡ false
atoms-apart ds a b ha hb h =
    false_from_ne_true (is_same_place (atom_at ds a) (atom_at ds b)) (λ e.
    let p = and_parts (is_same_modulo_1 (eighth a.i) (eighth b.i) && is_same_modulo_1 (eighth a.j) (eighth b.j)) (is_same_modulo_1 (eighth a.k) (eighth b.k)) e in
    let q = and_parts (is_same_modulo_1 (eighth a.i) (eighth b.i)) (is_same_modulo_1 (eighth a.j) (eighth b.j)) p.0 in
    same_numbers a b (eighth-same a.i b.i ha.i hb.i q.0) (eighth-same a.j b.j ha.j hb.j q.1) (eighth-same a.k b.k ha.k hb.k p.1) h)

places-apart : (ds : List ℕ) (i j : ℕ) (vs : List Node) (v : Node) → InGrid v → AreBelow (number_of v) vs → same_place_from i j (map (atom_at ds) vs) (atom_at ds v) ≡ None
places-apart ds i j [] v in_grid below = refl
places-apart ds i j (w ∷ vs) v in_grid below = rw (atoms-apart ds w v below.0.0 in_grid below.0.1) (places-apart ds (i + 1) j vs v in_grid below.1)

place-none : (ds : List ℕ) (vs : List Node) (v : Node) → InGrid v → AreBelow (number_of v) vs → same_place (map (atom_at ds) vs) (atom_at ds v) ≡ None
unfolding same_place
place-none ds vs v in_grid below = places-apart ds 1 _ vs v in_grid below

-- ---- ranges

-- the coordinates of nodes
abbrev pub coordinates : List Node → List ℤ
coordinates vs = flat_map (λ v. pos v.i ∷ pos v.j ∷ pos v.k ∷ []) vs

-- The coordinates of the atoms are those of the nodes.
pub positions-atoms : (ds : List ℕ) (vs : List Node) → positions (map (atom_at ds) vs) ≡ map (reduced 8) (coordinates vs)
unfolding positions
positions-atoms ds [] = refl
positions-atoms ds (v ∷ vs) = ap (λ (fs : List Fraction). eighth v.i ∷ eighth v.j ∷ eighth v.k ∷ fs) (positions-atoms ds vs)

eight_below : (zs : List ℤ) → common_denominator (map (reduced 8) zs) ≤ 8
eight_below zs = le_of_dvd (omega arith) (common_denominator-divides 8 zs (omega arith))

positions-range : (ds : List ℕ) (vs : List Node) → are_positions_in_range (map (atom_at ds) vs) ≡ true
unfolding are_positions_in_range
positions-range ds vs =
    ap (λ (fs : List Fraction). nat_le (common_denominator fs) 1000000) (positions-atoms ds vs)
    ∙ le-leb _ 1000000 (omega (arith, eight_below (coordinates vs)))

-- Moments are integers.
pub moments-unit : (ds : List ℕ) (vs : List Node) → common_denominator (moments (map (atom_at ds) vs)) ≡ 1
unfolding moments lcm gcd
moments-unit ds [] = refl
moments-unit ds (v ∷ vs) = moments-unit ds vs

component-billion : (d : ℕ) → is_billion (scaled 1 (whole (component d))) ≡ true
component-billion zero = refl
component-billion (suc zero) = refl
component-billion (suc (suc d)) = refl

moments-billion : (ds : List ℕ) (vs : List Node) → list_all (λ (m : Fraction). is_billion (scaled 1 m)) (moments (map (atom_at ds) vs)) ≡ true
unfolding moments
moments-billion ds [] = refl
moments-billion ds (v ∷ vs) = and_from (is_billion (scaled 1 (whole (component (draw_at ds v))))) _ (component-billion (draw_at ds v)) (moments-billion ds vs)

moments-range : (ds : List ℕ) (vs : List Node) → are_moments_in_range (map (atom_at ds) vs) ≡ true
unfolding are_moments_in_range
moments-range ds vs =
    ap (λ (k : ℕ). nat_le k 1000000 && list_all (λ (m : Fraction). is_billion (scaled k m)) (moments (map (atom_at ds) vs))) (moments-unit ds vs)
    ∙ moments-billion ds vs

-- ---- what is known behind some lines

abbrev pub metric_held : ScaledMetric
metric_held = record { scale = 1; entries = symmetric (pos 64) (pos 64) (pos 64) (pos 0) (pos 0) (pos 0) }

-- behind the metric line and the lines of some atoms
abbrev pub held_with : List ℕ → List Node → Contents
held_with ds vs = record { kinds = []; metrics = metric_held ∷ []; atoms = map (atom_at ds) vs; ended = false }

abbrev pub behind : List ℕ → List Node → State
behind ds vs = state_with (Some One) (held_with ds vs)

-- of the whole text
abbrev pub whole_with : List ℕ → List Node → Contents
whole_with ds vs = record { kinds = []; metrics = metric_held ∷ []; atoms = map (atom_at ds) vs; ended = true }

-- ---- an atom line

two_none : (a b : Bool) (f : Option CellFault) → a ≡ true → b ≡ true → f ≡ None → first_of (when (not a) PositionRange ∷ when (not b) MomentRange ∷ f ∷ []) ≡ None
two_none a b f ea eb ef = rw (ea, eb, ef) refl

place_fault-none : (ds : List ℕ) (vs : List Node) (v : Node) → InGrid v → AreBelow (number_of v) vs → place_fault (held_with ds vs) (atom_at ds v) ≡ None
unfolding place_fault
place_fault-none ds vs v in_grid below =
    let more : map (atom_at ds) vs ++ atom_at ds v ∷ [] ≡ map (atom_at ds) (vs ++ v ∷ []) = sym (map-append (atom_at ds) vs (v ∷ [])) in
    two_none _ _ _ (ap are_positions_in_range more ∙ positions-range ds (vs ++ v ∷ [])) (ap are_moments_in_range more ∙ moments-range ds (vs ++ v ∷ [])) (place-none ds vs v in_grid below)

rules_none : (b a : Bool) (f g : Option CellFault) → b ≡ true → a ≡ false → f ≡ None → g ≡ None → first_of (when (not b) BadLine ∷ when a TooManyAtoms ∷ f ∷ g ∷ []) ≡ None
rules_none b a f g eb ea ef eg = rw (eb, ea, ef, eg) refl

atom_fault-none : (ds : List ℕ) (vs : List Node) (v : Node) → length vs < 512 → InGrid v → AreBelow (number_of v) vs → atom_fault One (held_with ds vs) (codes "A") (atom_words ds v) ≡ None
unfolding atom_fault
atom_fault-none ds vs v fewer in_grid below =
    rules_none _ _ _ _ (atom_line-count ds v)
    (ap (λ (n : ℕ). nat_le MOST_ATOMS n) (length-map vs (atom_at ds)) ∙ lt-leb MOST_ATOMS (length vs) (omega (arith, fewer)))
    (atom_line-no_fault ds v in_grid)
    (ap (place_fault (held_with ds vs)) (atom_line-read ds v in_grid) ∙ place_fault-none ds vs v in_grid below)

passed : (b : Bool) (f : Option CellFault) → b ≡ false → f ≡ None → first_of (when b BadByte ∷ when false AfterEnd ∷ f ∷ []) ≡ None
passed b f e g = rw (e, g) refl

atom-fault : (ds : List ℕ) (before : List (List ℕ)) (vs : List Node) (v : Node) → length vs < 512 → InGrid v → AreBelow (number_of v) vs → state_after before ≡ behind ds vs → fault_after before (atom_line ds v) ≡ None
unfolding later_fault
atom-fault ds before vs v fewer in_grid below held =
    ap (λ (so_far : State). judged so_far (atom_line ds v)) held
    ∙ ap (later_fault One (held_with ds vs) (atom_line ds v)) (atom_line-is ds v in_grid)
    ∙ passed (has_bad_byte (atom_line ds v)) (atom_fault One (held_with ds vs) (codes "A") (atom_words ds v)) (line-no_bad_byte (atom_line ds v) (atom_line-bytes ds v in_grid)) (atom_fault-none ds vs v fewer in_grid below)

atom-held : (ds : List ℕ) (before : List (List ℕ)) (vs : List Node) (v : Node) → InGrid v → state_after before ≡ behind ds vs → state_after (before ++ atom_line ds v ∷ []) ≡ behind ds (vs ++ v ∷ [])
atom-held ds before vs v in_grid held =
    state_after-more before (atom_line ds v)
    ∙ ap (λ (so_far : State). with_line so_far (atom_line ds v)) held
    ∙ ap (λ (e : Entry). state_with (Some One) (with_entry (held_with ds vs) e)) (atom_line-is ds v in_grid)
    ∙ ap (λ (a : AtomLine). state_with (Some One) (with_atom (held_with ds vs) a)) (atom_line-read ds v in_grid)
    ∙ ap with_atoms (sym (map-append (atom_at ds) vs (v ∷ [])))
  where
    with_atoms : List AtomLine → State
    with_atoms atoms = state_with (Some One) (record { kinds = []; metrics = metric_held ∷ []; atoms = atoms; ended = false })

-- ---- the first two lines

abbrev pub heading_line : List ℕ
heading_line = codes "magcell 1"

abbrev pub metric_line : List ℕ
metric_line = codes "metric 64 64 64 0 0 0"

heading-none : fault_after [] heading_line ≡ None
unfolding state_after heading_fault has_bad_byte version_of
heading-none = refl

metric-none : fault_after (heading_line ∷ []) metric_line ≡ None
unfolding state_after has_bad_byte version_of later_fault entry_of metric_fault word_fault number_fault is_metric_in_range is_positive number_value lowest gcd lcm
metric-none = refl

metric-held : (ds : List ℕ) → state_after (heading_line ∷ metric_line ∷ []) ≡ behind ds []
unfolding state_after version_of entry_of number_value lowest gcd lcm
metric-held ds = refl

-- ---- the end

end-none : (ds : List ℕ) (vs : List Node) → 0 < length vs → end_fault (held_with ds vs) ≡ None
unfolding end_fault
end-none ds [] h = absurd (omega arith)
end-none ds (v ∷ vs) h = rw (ne_eqb (length (map (atom_at ds) (v ∷ vs))) 0 (λ e. omega (arith, e))) refl

end-is : entry_of One end_word ≡ end_entry
unfolding entry_of
end-is = refl

end-no_bad_byte : has_bad_byte end_word ≡ false
unfolding has_bad_byte
end-no_bad_byte = refl

end-fault : (ds : List ℕ) (before : List (List ℕ)) (vs : List Node) → 0 < length vs → state_after before ≡ behind ds vs → fault_after before end_word ≡ None
unfolding later_fault
end-fault ds before vs some held =
    ap (λ (so_far : State). judged so_far end_word) held
    ∙ ap (later_fault One (held_with ds vs) end_word) end-is
    ∙ passed (has_bad_byte end_word) (end_fault (held_with ds vs)) end-no_bad_byte (end-none ds vs some)

end-held : (ds : List ℕ) (before : List (List ℕ)) (vs : List Node) → state_after before ≡ behind ds vs → state_after (before ++ end_word ∷ []) ≡ state_with (Some One) (whole_with ds vs)
end-held ds before vs held =
    state_after-more before end_word
    ∙ ap (λ (so_far : State). with_line so_far end_word) held
    ∙ ap (λ (e : Entry). state_with (Some One) (with_entry (held_with ds vs) e)) end-is

ended_text : (ls : List (List ℕ)) → 0 < length ls → (contents ls).ended ≡ true → fault_at_end ls ≡ None
ended_text [] h e = absurd (omega arith)
ended_text (l ∷ ls) h e = rw e refl

-- ---- all lines

-- No line of the second ones breaks a rule behind the first ones, and all of them hold these atoms.
pub record AreRead (ds : List ℕ) (vs : List Node) (before later : List (List ℕ)) : Type 0 where
  pub faultless : first_fault before later ≡ None
  pub held : contents (before ++ later) ≡ whole_with ds vs

line_more : (ds : List ℕ) (vs : List Node) (before : List (List ℕ)) (line : List ℕ) (later : List (List ℕ)) → fault_after before line ≡ None → AreRead ds vs (before ++ line ∷ []) later → AreRead ds vs before (line ∷ later)
line_more ds vs before line later e h = record {
  faultless = ap (λ (fault : Option CellFault). elim fault [ Some f ↦ Some (length before + 1, f) | None ↦ first_fault (before ++ line ∷ []) later ]) e ∙ h.faultless;
  held = ap contents (sym (append_assoc before (line ∷ []) later)) ∙ h.held;
}

end-read : (ds : List ℕ) (before : List (List ℕ)) (vs : List Node) → 0 < length vs → state_after before ≡ behind ds vs → AreRead ds vs before (end_word ∷ [])
end-read ds before vs some held =
    let all : contents (before ++ end_word ∷ []) ≡ whole_with ds vs = ap (λ (so_far : State). so_far.held) (end-held ds before vs held) in
    let more : 0 < length (before ++ end_word ∷ []) = omega (arith, length-append before (end_word ∷ [])) in
    line_more ds vs before end_word [] (end-fault ds before vs some held) (record {
      faultless = rw (ended_text (before ++ end_word ∷ []) more (ap (λ (so_far : Contents). so_far.ended) all)) refl;
      held = ap contents (append-nil (before ++ end_word ∷ [])) ∙ all;
    })

fewer_before : (vs later : List Node) (v : Node) → length (vs ++ v ∷ later) ≡ 512 → length vs < 512
fewer_before vs later v e = omega (arith, e, length-append vs (v ∷ later))

atoms-read : (ds : List ℕ) (all : List Node) (before : List (List ℕ)) (m : ℕ) (vs later : List Node) → length all ≡ 512 → vs ++ later ≡ all → AreBelow m vs → AreRising m later → state_after before ≡ behind ds vs → AreRead ds all before (map (atom_line ds) later ++ end_word ∷ [])
atoms-read ds all before m vs [] count e below rising held =
    let same : vs ≡ all = sym (append-nil vs) ∙ e in
    end-read ds before all (omega (arith, count)) (held ∙ ap (behind ds) same)
atoms-read ds all before m vs (v ∷ later) count e below rising held =
    let fewer = fewer_before vs later v (ap length e ∙ count) in
    let in_grid = rising.0.0 in
    line_more ds all before (atom_line ds v) (map (atom_line ds) later ++ end_word ∷ []) (atom-fault ds before vs v fewer in_grid (below-later m (number_of v) vs rising.0.1 below) held)
    (atoms-read ds all (before ++ atom_line ds v ∷ []) (number_of v + 1) (vs ++ v ∷ []) later count (append_assoc vs (v ∷ []) later ∙ e) (below-more m vs v below in_grid rising.0.1) rising.1 (atom-held ds before vs v in_grid held))

-- The lines of a generated text break no rule, and hold the atoms.
pub lines-read : (ds : List ℕ) → AreRead ds nodes [] (heading_line ∷ metric_line ∷ (map (atom_line ds) nodes ++ end_word ∷ []))
lines-read ds =
    line_more ds nodes [] heading_line _ heading-none (line_more ds nodes (heading_line ∷ []) metric_line _ metric-none (atoms-read ds nodes (heading_line ∷ metric_line ∷ []) 0 [] nodes nodes-count refl tt nodes-rising (metric-held ds)))
