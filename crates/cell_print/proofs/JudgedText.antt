-- No line of a printed cell breaks a rule, and the lines hold the cell.
use Rattle.std.proofs.Common.{◌≡◌, ℕ, ◌+◌, ◌^◌, ◌<◌, ◌≤◌, Bool, true, false, List, [], ◌∷◌, ◌++◌, length, map, Option, Some, None, refl, sym, ap, ◌∙◌, arith, append-nil, append_assoc, length-append}
use Rattle.std.specs.Prelude.{ℤ, unsigned_abs, ◌&&◌, not, nat_le, codes}
use Rattle.std.specs.List.{list_all}
use Rattle.std.proofs.lemmas.Bool.{le-leb, lt-leb, and_from, ne_eqb}
use Rattle.std.proofs.lemmas.List.{map-append, length-map}
use Rattle.std.proofs.lemmas.Nat.Gcd.{le_of_dvd}
use Rattle.crystal_spec.specs.declared.MomentKind.{MomentKind}
use Rattle.crystal_spec.specs.Crystals.{Atom, Structure}
use Rattle.crystal_spec.specs.Operations.{IsWithinCell}
use Rattle.crystal.specs.declared.limits.TheConstants.{MOST_ATOMS}
use Rattle.cell_text.specs.declared.fault.CellFault.{CellFault}
use Rattle.cell_text.specs.declared.fault.CellFault.TheVariants.{BadLine, TooManyAtoms, PositionRange, MomentRange, MetricTwice, MetricRange, NotPositive, BadByte, AfterEnd}
use Rattle.cell_text.specs.declared.version.Version.{Version}
use Rattle.numbers.specs.Fraction.{Fraction}
use Rattle.plain_text.specs.NumberWords.{scaled, common_denominator}
use Rattle.plain_text.specs.FirstFaults.{first_of, when}
use Rattle.plain_text.specs.Text.{has_bad_byte}
use Rattle.cell_text.specs.Lines.{end_word, Entry, end_entry, entry_of}
use Rattle.cell_text.specs.Entries.{AtomLine, ScaledMetric, Contents, State, state_with, with_metric, with_atom, with_entry, with_line, state_after, contents, positions, moments, is_billion, are_positions_in_range, are_moments_in_range}
use Rattle.cell_text.specs.Rules.{same_place, same_place_from, metric_fault, place_fault, are_numbers_of, atom_fault, end_fault, later_fault, judged, fault_after, fault_at_end, first_fault}
use Rattle.cell_text.proofs.Judging.{state_after-more}
use Rattle.cell_print.specs.Printable.{all_positions, all_moments, AreAtMost}
use Rattle.plain_text.proofs.NumberWords.{reduced}
use Rattle.cell_print.proofs.TextCuts.{line-no_bad_byte}
use Rattle.cell_print.proofs.CommonDenominators.{common_denominator-divides, scaled-smaller}
use Rattle.cell_print.proofs.FirstLines.{kind_as, heading_line, kind_lines, first_lines, version_of_kind, kinds_told, first_held, kind-told, first_lines-held, heading-none, plain_vectors-none, axial_scalars-none, plain_scalars-none}
use Rattle.cell_print.proofs.PrintedLines.{metric_line, atom_line, atom_lines, name_of, IsPlain, atom_line-bytes, metric_line-bytes}
use Rattle.cell_print.proofs.ReadLines.{metric_held, metric_words, atom_words, IsPlainMetric, metric_line-read, metric_line-in_range, metric_line-positive, metric_line-is, metric_line-no_fault, entry, HasUnits, atom_line-read, atom_line-no_fault, atom_line-count, atom_line-is}
use Rattle.cell_print.proofs.PlacesApart.{entries-apart}

-- ---- ranges

-- The coordinates of the printed atoms are those of the cell.
pub positions-entries : (c : Structure) (atoms : List Atom) → positions (map (entry c) atoms) ≡ map (reduced c.n) (all_positions atoms)
unfolding positions
positions-entries c [] = refl
positions-entries c (s ∷ atoms) = ap (λ (fs : List Fraction). reduced c.n s.position.x ∷ reduced c.n s.position.y ∷ reduced c.n s.position.z ∷ fs) (positions-entries c atoms)

-- And so are the components of their moments.
pub moments-entries : (c : Structure) (atoms : List Atom) → moments (map (entry c) atoms) ≡ map (reduced c.k) (all_moments atoms)
unfolding moments
moments-entries c [] = refl
moments-entries c (s ∷ atoms) = ap (λ (fs : List Fraction). reduced c.k s.moment.x ∷ reduced c.k s.moment.y ∷ reduced c.k s.moment.z ∷ fs) (moments-entries c atoms)

unit_below : (d : ℕ) (zs : List ℤ) → 0 < d → common_denominator (map (reduced d) zs) ≤ d
unit_below d zs some = le_of_dvd some (common_denominator-divides d zs some)

positions-range : (c : Structure) (atoms : List Atom) → HasUnits c → are_positions_in_range (map (entry c) atoms) ≡ true
unfolding are_positions_in_range
positions-range c atoms units =
    ap (λ (fs : List Fraction). nat_le (common_denominator fs) 1000000) (positions-entries c atoms)
    ∙ le-leb _ 1000000 (omega (arith, unit_below c.n (all_positions atoms) units.some_n, units.small_n))

billions : (d m : ℕ) (zs : List ℤ) → 0 < d → m ≤ d → AreAtMost (10 ^ 9) zs → list_all (λ f. is_billion (scaled m f)) (map (reduced d) zs) ≡ true
billions d m [] some h most = refl
billions d m (z ∷ zs) some h most =
    and_from (is_billion (scaled m (reduced d z))) _ (le-leb (unsigned_abs (scaled m (reduced d z))) 1000000000 (omega (arith, most.0, scaled-smaller d m z some h))) (billions d m zs some h most.1)

moments-range : (c : Structure) (atoms : List Atom) → HasUnits c → AreAtMost (10 ^ 9) (all_moments atoms) → are_moments_in_range (map (entry c) atoms) ≡ true
unfolding are_moments_in_range
moments-range c atoms units most =
    ap (λ (fs : List Fraction). nat_le (common_denominator fs) 1000000 && list_all (λ f. is_billion (scaled (common_denominator fs) f)) fs) (moments-entries c atoms)
    ∙ and_from _ _ (le-leb _ 1000000 (omega (arith, unit_below c.k (all_moments atoms) units.some_k, units.small_k))) (billions c.k _ (all_moments atoms) units.some_k (unit_below c.k (all_moments atoms) units.some_k) most)

-- ---- places

-- an atom is at no position of these
abbrev pub IsElsewhere : Structure → List Atom → Atom → Type 0
IsElsewhere c [] s = Unit {0}
IsElsewhere c (a ∷ atoms) s = (IsWithinCell c.n a.position × (a.position ≡ s.position → ⊥)) × IsElsewhere c atoms s

places-apart : (c : Structure) (i j : ℕ) (atoms : List Atom) (s : Atom) → 0 < c.n → IsWithinCell c.n s.position → IsElsewhere c atoms s → same_place_from i j (map (entry c) atoms) (entry c s) ≡ None
places-apart c i j [] s some within away = refl
places-apart c i j (a ∷ atoms) s some within away = rw (entries-apart c a s some away.0.0 within away.0.1) (places-apart c (i + 1) j atoms s some within away.1)

place-none : (c : Structure) (atoms : List Atom) (s : Atom) → 0 < c.n → IsWithinCell c.n s.position → IsElsewhere c atoms s → same_place (map (entry c) atoms) (entry c s) ≡ None
unfolding same_place
place-none c atoms s some within away = places-apart c 1 _ atoms s some within away

-- ---- an atom line

-- The contents behind the metric line and some atom lines.
abbrev pub held_with : Structure → List Atom → Contents
held_with c atoms = record { kinds = kinds_told c.kind; metrics = metric_held c ∷ []; atoms = map (entry c) atoms; ended = false }

-- What is known there.
abbrev pub behind : Structure → List Atom → State
behind c atoms = state_with (Some (version_of_kind c.kind)) (held_with c atoms)

-- an atom that can follow these
pub record CanFollow (c : Structure) (atoms : List Atom) (s : Atom) : Type 0 where
  pub fewer : length atoms < MOST_ATOMS
  pub plain : IsPlain c s
  pub within : IsWithinCell c.n s.position
  pub away : IsElsewhere c atoms s
  pub moments : AreAtMost (10 ^ 9) (all_moments (atoms ++ s ∷ []))

two_none : (a b : Bool) (f : Option CellFault) → a ≡ true → b ≡ true → f ≡ None → first_of (when (not a) PositionRange ∷ when (not b) MomentRange ∷ f ∷ []) ≡ None
two_none a b f ea eb ef = rw (ea, eb, ef) refl

place_fault-none : (c : Structure) (atoms : List Atom) (s : Atom) → HasUnits c → CanFollow c atoms s → place_fault (held_with c atoms) (entry c s) ≡ None
unfolding place_fault
place_fault-none c atoms s units h =
    let more : map (entry c) atoms ++ entry c s ∷ [] ≡ map (entry c) (atoms ++ s ∷ []) = sym (map-append (entry c) atoms (s ∷ [])) in
    two_none _ _ _
    (ap are_positions_in_range more ∙ positions-range c (atoms ++ s ∷ []) units)
    (ap are_moments_in_range more ∙ moments-range c (atoms ++ s ∷ []) units h.moments)
    (place-none c atoms s units.some_n h.within h.away)

rules_none : (b a : Bool) (f g : Option CellFault) → b ≡ true → a ≡ false → f ≡ None → g ≡ None → first_of (when (not b) BadLine ∷ when a TooManyAtoms ∷ f ∷ g ∷ []) ≡ None
rules_none b a f g eb ea ef eg = rw (eb, ea, ef, eg) refl

not_many : (n : ℕ) → n < MOST_ATOMS → nat_le MOST_ATOMS n ≡ false
not_many n h = lt-leb MOST_ATOMS n h

atom_line-none : (c : Structure) (atoms : List Atom) (s : Atom) → HasUnits c → CanFollow c atoms s → atom_fault (version_of_kind c.kind) (held_with c atoms) (name_of c s) (atom_words c s) ≡ None
unfolding atom_fault
atom_line-none c atoms s units h =
    rules_none _ _ _ _
    (ap (λ (kind : MomentKind). are_numbers_of kind (length (atom_words c s))) (kind-told c.kind) ∙ atom_line-count c s)
    (ap (λ (n : ℕ). nat_le MOST_ATOMS n) (length-map atoms (entry c)) ∙ not_many (length atoms) h.fewer)
    (atom_line-no_fault (version_of_kind c.kind) c s units h.plain)
    (ap (place_fault (held_with c atoms)) (atom_line-read c s units h.plain) ∙ place_fault-none c atoms s units h)

abbrev sizes_known : (c : Structure) → HasUnits c → (c.n < 10 ^ 18) × (c.k < 10 ^ 18)
sizes_known c units = (omega (arith, units.small_n), omega (arith, units.small_k))

passed : (b : Bool) (f : Option CellFault) → b ≡ false → f ≡ None → first_of (when b BadByte ∷ when false AfterEnd ∷ f ∷ []) ≡ None
passed b f e g = rw (e, g) refl

atom-fault : (c : Structure) (before : List (List ℕ)) (atoms : List Atom) (s : Atom) → HasUnits c → CanFollow c atoms s → state_after before ≡ behind c atoms → fault_after before (atom_line c s) ≡ None
unfolding later_fault
atom-fault c before atoms s units h held =
    ap (λ (so_far : State). judged so_far (atom_line c s)) held
    ∙ ap (later_fault (version_of_kind c.kind) (held_with c atoms) (atom_line c s)) (atom_line-is (version_of_kind c.kind) c s units h.plain)
    ∙ passed (has_bad_byte (atom_line c s)) (atom_fault (version_of_kind c.kind) (held_with c atoms) (name_of c s) (atom_words c s)) (line-no_bad_byte (atom_line c s) (atom_line-bytes c s (sizes_known c units).0 (sizes_known c units).1 h.plain)) (atom_line-none c atoms s units h)

atom-held : (c : Structure) (before : List (List ℕ)) (atoms : List Atom) (s : Atom) → HasUnits c → IsPlain c s → state_after before ≡ behind c atoms → state_after (before ++ atom_line c s ∷ []) ≡ behind c (atoms ++ s ∷ [])
atom-held c before atoms s units plain held =
    state_after-more before (atom_line c s)
    ∙ ap (λ (so_far : State). with_line so_far (atom_line c s)) held
    ∙ ap (λ (e : Entry). state_with (Some (version_of_kind c.kind)) (with_entry (held_with c atoms) e)) (atom_line-is (version_of_kind c.kind) c s units plain)
    ∙ ap (λ (a : AtomLine). state_with (Some (version_of_kind c.kind)) (with_atom (held_with c atoms) a)) (atom_line-read c s units plain)
    ∙ ap with_atoms (sym (map-append (entry c) atoms (s ∷ [])))
  where
    with_atoms : List AtomLine → State
    with_atoms atoms = state_with (Some (version_of_kind c.kind)) (record { kinds = kinds_told c.kind; metrics = metric_held c ∷ []; atoms = atoms; ended = false })

-- ---- the metric line

four_none : (a b d : Bool) (f : Option CellFault) → a ≡ true → f ≡ None → b ≡ true → d ≡ true → first_of (when (not a) MetricTwice ∷ f ∷ when (not b) MetricRange ∷ when (not d) NotPositive ∷ []) ≡ None
four_none a b d f ea ef eb ed = rw (ea, ef, eb, ed) refl

metric_line-none : (c : Structure) → IsPlainMetric c → metric_fault (version_of_kind c.kind) (first_held c.kind) (metric_words c) ≡ None
unfolding metric_fault
metric_line-none c h = four_none true _ _ _ refl (metric_line-no_fault (version_of_kind c.kind) c h) (metric_line-in_range c h) (metric_line-positive c h)

metric-fault : (c : Structure) → IsPlainMetric c → fault_after (first_lines c.kind) (metric_line c) ≡ None
unfolding later_fault
metric-fault c h =
    ap (λ (so_far : State). judged so_far (metric_line c)) (first_lines-held c.kind)
    ∙ ap (later_fault (version_of_kind c.kind) (first_held c.kind) (metric_line c)) (metric_line-is (version_of_kind c.kind) c h)
    ∙ passed (has_bad_byte (metric_line c)) (metric_fault (version_of_kind c.kind) (first_held c.kind) (metric_words c)) (line-no_bad_byte (metric_line c) (metric_line-bytes c (omega (arith, h.small_scale)) h.small)) (metric_line-none c h)

metric-held : (c : Structure) → IsPlainMetric c → state_after (first_lines c.kind ++ metric_line c ∷ []) ≡ behind c []
metric-held c h =
    state_after-more (first_lines c.kind) (metric_line c)
    ∙ ap (λ (so_far : State). with_line so_far (metric_line c)) (first_lines-held c.kind)
    ∙ ap (λ (e : Entry). state_with (Some (version_of_kind c.kind)) (with_entry (first_held c.kind) e)) (metric_line-is (version_of_kind c.kind) c h)
    ∙ ap (λ (m : ScaledMetric). state_with (Some (version_of_kind c.kind)) (with_metric (first_held c.kind) m)) (metric_line-read c h)

-- ---- the end

end-no_bad_byte : has_bad_byte end_word ≡ false
unfolding has_bad_byte
end-no_bad_byte = refl

end-is : (version : Version) → entry_of version end_word ≡ end_entry
unfolding entry_of
end-is version = refl

end-none : (c : Structure) (atoms : List Atom) → 0 < length atoms → end_fault (held_with c atoms) ≡ None
unfolding end_fault
end-none c [] h = absurd (omega arith)
end-none c (s ∷ atoms) h = rw (ne_eqb (length (map (entry c) (s ∷ atoms))) 0 (λ e. omega (arith, e))) refl

end-fault : (c : Structure) (before : List (List ℕ)) (atoms : List Atom) → 0 < length atoms → state_after before ≡ behind c atoms → fault_after before end_word ≡ None
unfolding later_fault
end-fault c before atoms filled held =
    ap (λ (so_far : State). judged so_far end_word) held
    ∙ ap (later_fault (version_of_kind c.kind) (held_with c atoms) end_word) (end-is (version_of_kind c.kind))
    ∙ passed (has_bad_byte end_word) (end_fault (held_with c atoms)) end-no_bad_byte (end-none c atoms filled)

-- the contents of the whole text
abbrev pub whole : Structure → Contents
whole c = record { kinds = kinds_told c.kind; metrics = metric_held c ∷ []; atoms = map (entry c) c.atoms; ended = true }

end-held : (c : Structure) (before : List (List ℕ)) → state_after before ≡ behind c c.atoms → state_after (before ++ end_word ∷ []) ≡ state_with (Some (version_of_kind c.kind)) (whole c)
end-held c before held =
    state_after-more before end_word
    ∙ ap (λ (so_far : State). with_line so_far end_word) held
    ∙ ap (λ (e : Entry). state_with (Some (version_of_kind c.kind)) (with_entry (held_with c c.atoms) e)) (end-is (version_of_kind c.kind))

ended_text : (ls : List (List ℕ)) → 0 < length ls → (contents ls).ended ≡ true → fault_at_end ls ≡ None
ended_text [] h e = absurd (omega arith)
ended_text (l ∷ ls) h e = rw e refl

-- ---- all lines

-- no line of the second ones breaks a rule behind the first ones, and all of them hold the cell
pub record AreRead (c : Structure) (before later : List (List ℕ)) : Type 0 where
  pub faultless : first_fault before later ≡ None
  pub held : contents (before ++ later) ≡ whole c

line_more : (c : Structure) (before : List (List ℕ)) (line : List ℕ) (later : List (List ℕ)) → fault_after before line ≡ None → AreRead c (before ++ line ∷ []) later → AreRead c before (line ∷ later)
line_more c before line later e h = record {
  faultless = ap (λ (fault : Option CellFault). elim fault [ Some f ↦ Some (length before + 1, f) | None ↦ first_fault (before ++ line ∷ []) later ]) e ∙ h.faultless;
  held = ap contents (sym (append_assoc before (line ∷ []) later)) ∙ h.held;
}

end-read : (c : Structure) (before : List (List ℕ)) → 0 < length c.atoms → state_after before ≡ behind c c.atoms → AreRead c before (end_word ∷ [])
end-read c before filled held =
    let all : contents (before ++ end_word ∷ []) ≡ whole c = ap (λ (so_far : State). so_far.held) (end-held c before held) in
    let more : 0 < length (before ++ end_word ∷ []) = omega (arith, length-append before (end_word ∷ [])) in
    line_more c before end_word [] (end-fault c before c.atoms filled held) (record {
      faultless = rw (ended_text (before ++ end_word ∷ []) more (ap (λ (so_far : Contents). so_far.ended) all)) refl;
      held = ap contents (append-nil (before ++ end_word ∷ [])) ∙ all;
    })

-- each atom can follow those before it
abbrev pub CanFollowAll : Structure → List Atom → List Atom → Type 0
CanFollowAll c before [] = Unit {0}
CanFollowAll c before (s ∷ atoms) = CanFollow c before s × CanFollowAll c (before ++ s ∷ []) atoms

atoms-read : (c : Structure) (before : List (List ℕ)) (atoms later : List Atom) → HasUnits c → 0 < length c.atoms → state_after before ≡ behind c atoms → atoms ++ later ≡ c.atoms → CanFollowAll c atoms later → AreRead c before (atom_lines c later ++ end_word ∷ [])
atoms-read c before atoms [] units filled held all h = end-read c before filled (held ∙ ap (behind c) (sym (append-nil atoms) ∙ all))
atoms-read c before atoms (s ∷ later) units filled held all h =
    line_more c before (atom_line c s) (atom_lines c later ++ end_word ∷ []) (atom-fault c before atoms s units h.0 held)
    (atoms-read c (before ++ atom_line c s ∷ []) (atoms ++ s ∷ []) later units filled (atom-held c before atoms s units h.0.plain held) (append_assoc atoms (s ∷ []) later ∙ all) h.1)

-- The kind line, where there is one, breaks no rule behind the first line.
kind-read : (c : Structure) (vector axial : Bool) (later : List (List ℕ)) → AreRead c (first_lines (kind_as vector axial)) later → AreRead c (heading_line (kind_as vector axial) ∷ []) (kind_lines (kind_as vector axial) ++ later)
kind-read c true true later h = h
kind-read c true false later h = line_more c (codes "magcell 2" ∷ []) (codes "kind vector plain") later plain_vectors-none h
kind-read c false true later h = line_more c (codes "magcell 2" ∷ []) (codes "kind scalar axial") later axial_scalars-none h
kind-read c false false later h = line_more c (codes "magcell 2" ∷ []) (codes "kind scalar plain") later plain_scalars-none h

-- The lines of a printed cell break no rule and hold the cell.
pub lines-read : (c : Structure) → IsPlainMetric c → HasUnits c → 0 < length c.atoms → CanFollowAll c [] c.atoms → AreRead c [] (heading_line c.kind ∷ (kind_lines c.kind ++ metric_line c ∷ (atom_lines c c.atoms ++ end_word ∷ [])))
lines-read c metric units filled h =
    let atoms = atoms-read c (first_lines c.kind ++ metric_line c ∷ []) [] c.atoms units filled (metric-held c metric) refl h in
    let later = line_more c (first_lines c.kind) (metric_line c) (atom_lines c c.atoms ++ end_word ∷ []) (metric-fault c metric) atoms in
    line_more c [] (heading_line c.kind) _ (heading-none c.kind) (kind-read c c.kind.vector c.kind.axial _ later)
