-- What holds behind every line of a text in which no line breaks a rule.
--   text_holds   what each entry keeps holds of the contents of all lines
--   text_ends    the lines have an `end`
use Rattle.std.proofs.Common.{◌≡◌, ℕ, zero, suc, ◌+◌, ◌<◌, Bool, true, false, List, [], ◌∷◌, ◌++◌, length, map, get_or, Option, Some, None, refl, sym, subst, append_assoc, append-nil, arith}
use Rattle.std.specs.Prelude.{not, ◌==◌, nat_le}
use Rattle.crystal.specs.declared.limits.TheConstants.{MOST_ATOMS}
use Rattle.cell_text.specs.declared.version.Version.{Version}
use Rattle.cell_text.specs.declared.fault.CellFault.{CellFault}
use Rattle.cell_text.specs.declared.fault.CellFault.TheVariants.{BadByte, BadLine, MetricTwice, MetricMissing, MetricRange, NotPositive, PositionRange, MomentRange, TooManyAtoms, NoAtom, NoEnd, AfterEnd}
use Rattle.plain_text.specs.Text.{lines, has_bad_byte}
use Rattle.plain_text.specs.FirstFaults.{when, first_of}
use Rattle.cell_text.specs.Lines.{word_fault, Entry, skipped, metric_entry, atom_entry, end_entry, kind_entry, other_entry, entry_of}
use Rattle.cell_text.specs.Entries.{AtomLine, Contents, State, with_entry, next_state, with_line, state_after, contents, values, atom_line_of, metric_of, kind_of, is_metric_in_range, is_positive, are_positions_in_range, are_moments_in_range}
use Rattle.cell_text.specs.Rules.{same_place, metric_fault, place_fault, are_numbers_of, atom_fault, end_fault, entry_fault, later_fault, judged_by, judged, fault_after, fault_at_end, numbered, first_fault, cell_fault}
use Rattle.cell_text.proofs.Judging.{IsEntry, entry_is, state_after-more}

-- where there is no first fault, there is none
pub all_none : {X : Type 0} (fs : List (Option X)) (i : ℕ) → first_of fs ≡ None → get_or fs i None ≡ None
all_none [] i e = refl
all_none (None ∷ fs) zero e = refl
all_none (None ∷ fs) (suc i) e = all_none fs i e
all_none (Some f ∷ fs) i e = absurd cc

-- a rule that is kept
pub kept : (r : Bool) (f : CellFault) → when (not r) f ≡ None → r ≡ true
kept true f e = refl
kept false f e = absurd cc

-- ---- the rules of metric lines, atom lines and end lines, in order

abbrev metric_faults : Version → Contents → List (List ℕ) → List (Option CellFault)
metric_faults version held ws =
    when (not (length held.metrics == 0)) MetricTwice
    ∷ first_of (map (word_fault version) ws)
    ∷ when (not (is_metric_in_range (values ws))) MetricRange
    ∷ when (not (is_positive (metric_of (values ws)).entries)) NotPositive
    ∷ []

abbrev place_faults : Contents → AtomLine → List (Option CellFault)
place_faults held a =
    when (not (are_positions_in_range (held.atoms ++ a ∷ []))) PositionRange
    ∷ when (not (are_moments_in_range (held.atoms ++ a ∷ []))) MomentRange
    ∷ same_place held.atoms a
    ∷ []

abbrev atom_faults : Version → Contents → List ℕ → List (List ℕ) → List (Option CellFault)
atom_faults version held name ws =
    when (not (are_numbers_of (kind_of held) (length ws))) BadLine
    ∷ when (nat_le MOST_ATOMS (length held.atoms)) TooManyAtoms
    ∷ first_of (map (word_fault version) ws)
    ∷ place_fault held (atom_line_of name (values ws))
    ∷ []

abbrev end_faults : Contents → List (Option CellFault)
end_faults held = when (length held.metrics == 0) MetricMissing ∷ when (length held.atoms == 0) NoAtom ∷ []

-- the words of a metric line are numbers
pub metric_numbers : (version : Version) (held : Contents) (ws : List (List ℕ)) → metric_fault version held ws ≡ None → first_of (map (word_fault version) ws) ≡ None
unfolding metric_fault
metric_numbers version held ws e = all_none (metric_faults version held ws) 1 e

-- its metric tensor is within its range
pub metric_fits : (version : Version) (held : Contents) (ws : List (List ℕ)) → metric_fault version held ws ≡ None → is_metric_in_range (values ws) ≡ true
unfolding metric_fault
metric_fits version held ws e = kept (is_metric_in_range (values ws)) MetricRange (all_none (metric_faults version held ws) 2 e)

-- the words of an atom line are numbers
pub atom_numbers : (version : Version) (held : Contents) (name : List ℕ) (ws : List (List ℕ)) → atom_fault version held name ws ≡ None → first_of (map (word_fault version) ws) ≡ None
unfolding atom_fault
atom_numbers version held name ws e = all_none (atom_faults version held name ws) 2 e

-- moments are within their range with its moment
pub moments_fit : (version : Version) (held : Contents) (name : List ℕ) (ws : List (List ℕ)) → atom_fault version held name ws ≡ None → are_moments_in_range (held.atoms ++ atom_line_of name (values ws) ∷ []) ≡ true
unfolding atom_fault place_fault
moments_fit version held name ws e =
    let a = atom_line_of name (values ws) in
    kept (are_moments_in_range (held.atoms ++ a ∷ [])) MomentRange (all_none (place_faults held a) 1 (all_none (atom_faults version held name ws) 3 e))

not_missing : (n : ℕ) → when (n == 0) MetricMissing ≡ None → 0 < n
not_missing zero e = absurd cc
not_missing (suc n) e = omega arith

-- an end line stands behind a metric line
pub end_behind_metric : (held : Contents) → end_fault held ≡ None → 0 < length held.metrics
unfolding end_fault
end_behind_metric held e = not_missing (length held.metrics) (all_none (end_faults held) 0 e)

abbrev later_faults : Version → Contents → List ℕ → Entry → List (Option CellFault)
later_faults version held line entry = when (has_bad_byte line) BadByte ∷ when held.ended AfterEnd ∷ entry_fault version held entry ∷ []

-- a later line that breaks no rule breaks none of its form
later_passed : (version : Version) (held : Contents) (line : List ℕ) (entry : Entry) → later_fault version held line entry ≡ None → entry_fault version held entry ≡ None
unfolding later_fault
later_passed version held line skipped e = refl
later_passed version held line (metric_entry ws) e = all_none (later_faults version held line (metric_entry ws)) 2 e
later_passed version held line (atom_entry name ws) e = all_none (later_faults version held line (atom_entry name ws)) 2 e
later_passed version held line end_entry e = all_none (later_faults version held line end_entry) 2 e
later_passed version held line (kind_entry kind) e = all_none (later_faults version held line (kind_entry kind)) 2 e
later_passed version held line other_entry e = all_none (later_faults version held line other_entry) 2 e

-- ---- all lines

-- the first fault from a line on, where this is what the line breaks
abbrev after_line : List (List ℕ) → List ℕ → List (List ℕ) → Option CellFault → Option (ℕ × CellFault)
after_line before line later (Some fault) = Some (length before + 1, fault)
after_line before line later None = first_fault (before ++ line ∷ []) later

module _ (Holds : Contents → Type 0) (step : (version : Version) (held : Contents) (entry : Entry) → IsEntry entry → entry_fault version held entry ≡ None → Holds held → Holds (with_entry held entry)) where
  next_holds : (version : Option Version) (held : Contents) (line : List ℕ) → judged_by version held line ≡ None → Holds held → Holds (next_state version held line).held
  next_holds None held line e h = h
  next_holds (Some version) held line e h = step version held (entry_of version line) (entry_is version line) (later_passed version held line (entry_of version line) e) h

  line_holds : (s : State) (line : List ℕ) → judged s line ≡ None → Holds s.held → Holds (with_line s line).held
  line_holds s line e h = next_holds s.version s.held line e h

  lines_hold : (before later : List (List ℕ)) → first_fault before later ≡ None → Holds (contents before) → Holds (contents (before ++ later))
  lines_hold before [] e h = subst (λ (ls : List (List ℕ)). Holds (contents ls)) (sym (append-nil before)) h
  lines_hold before (line ∷ later) e h = by (lines_hold (before ++ line ∷ []) later) (fault_after before line) refl e
    where
      by : (first_fault (before ++ line ∷ []) later ≡ None → Holds (contents (before ++ line ∷ [])) → Holds (contents ((before ++ line ∷ []) ++ later)))
          → (f : Option CellFault) → fault_after before line ≡ f
          → after_line before line later f ≡ None
          → Holds (contents (before ++ line ∷ later))
      by rest (Some f) judged_so k = absurd cc
      by rest None judged_so k =
          subst (λ (ls : List (List ℕ)). Holds (contents ls)) (append_assoc before (line ∷ []) later)
          (rest k (subst (λ (s : State). Holds s.held) (sym (state_after-more before line)) (line_holds (state_after before) line judged_so h)))

  -- what holds of no lines, and behind each entry where it did before, holds of all
  pub text_holds : Holds (contents []) → (text : List ℕ) → cell_fault text ≡ None → Holds (contents (lines text))
  unfolding cell_fault
  text_holds none text e = lines_hold [] (lines text) e none

unmarked : (n : ℕ) (f : Option CellFault) → numbered n f ≡ None → f ≡ None
unmarked n None e = refl
unmarked n (Some f) e = absurd cc

ended_of : (before : List (List ℕ)) → fault_at_end before ≡ None → (contents before).ended ≡ true
ended_of [] e = absurd cc
ended_of (first ∷ before) e = kept (contents (first ∷ before)).ended NoEnd e

lines_end : (before later : List (List ℕ)) → first_fault before later ≡ None → (contents (before ++ later)).ended ≡ true
lines_end before [] e = ended_of (before ++ []) (subst (λ (ls : List (List ℕ)). fault_at_end ls ≡ None) (sym (append-nil before)) (unmarked (length before + 1) (fault_at_end before) e))
lines_end before (line ∷ later) e = by (lines_end (before ++ line ∷ []) later) (fault_after before line) e
  where
    by : (first_fault (before ++ line ∷ []) later ≡ None → (contents ((before ++ line ∷ []) ++ later)).ended ≡ true)
        → (f : Option CellFault)
        → after_line before line later f ≡ None
        → (contents (before ++ line ∷ later)).ended ≡ true
    by rest (Some f) k = absurd cc
    by rest None k = subst (λ (ls : List (List ℕ)). (contents ls).ended ≡ true) (append_assoc before (line ∷ []) later) (rest k)

-- a text without a fault has an `end`
pub text_ends : (text : List ℕ) → cell_fault text ≡ None → (contents (lines text)).ended ≡ true
unfolding cell_fault
text_ends text e = lines_end [] (lines text) e
