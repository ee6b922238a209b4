-- The rules of a cell file, and the first line that breaks one.
--   entry_fault v held e   the first rule that an entry of a file of this version breaks behind lines with these contents
--   fault_after before l   the first rule that the line l breaks behind the lines before it
--   fault_at_end before    what is wrong where the text ends behind these lines
--   cell_fault text        the first line that breaks a rule, counted from 1, and which rule
--   Tells first e          the error e names this first fault
-- On a line the rules are tried in the order in which they stand here.
use Rattle.std.specs.Prelude.{◌≡◌, ⊤, ℕ, ◌+◌, Bool, true, false, not, is_none, ◌==◌, ◌||◌, nat_le, List, [], ◌∷◌, ◌++◌, map, length, if◌then◌else◌}
use Rattle.std.specs.declared.option.Option.{Option}
use Rattle.std.specs.declared.option.Option.TheVariants.{Some, None}
use Rattle.crystal_spec.specs.declared.MomentKind.{MomentKind}
use Rattle.crystal.specs.declared.limits.TheConstants.{MOST_ATOMS}
use Rattle.cell_text.specs.declared.version.Version.{Version}
use Rattle.cell_text.specs.declared.fault.CellFault.{CellFault}
use Rattle.cell_text.specs.declared.fault.CellError.{CellError}
use Rattle.cell_text.specs.declared.fault.CellError.TheVariants as answers
use Rattle.cell_text.specs.declared.fault.CellFault.TheVariants.{NotMagcell, BadByte, BadLine, MetricTwice, KindTwice, KindLate, MetricMissing, MetricRange, NotPositive, PositionRange, MomentRange, TooManyAtoms, NoAtom, SamePlace, NoEnd, AfterEnd}
use Rattle.plain_text.specs.Text.{lines, has_bad_byte}
use Rattle.plain_text.specs.FirstFaults.{when, or_else, first_of}
use Rattle.cell_text.specs.Lines.{word_fault, version_of, Entry, skipped, metric_entry, atom_entry, end_entry, kind_entry, other_entry, entry_of}
use Rattle.cell_text.specs.Entries.{AtomLine, Contents, State, values, atom_line_of, metric_of, kind_of, state_after, contents, is_metric_in_range, is_positive, are_positions_in_range, are_moments_in_range, is_same_place}

-- Atom number j stands at the position of one of these, which are numbered from i: the first such.
abbrev pub same_place_from : ℕ → ℕ → List AtomLine → AtomLine → Option CellFault
same_place_from i j [] b = None
same_place_from i j (a ∷ held) b = or_else (when (is_same_place a b) (SamePlace i j)) (same_place_from (i + 1) j held b)

-- The next atom stands at the position of one of these. Atoms are counted from 1.
unfoldable pub same_place : List AtomLine → AtomLine → Option CellFault
same_place held b = same_place_from 1 (length held + 1) held b

-- The first line.
unfoldable pub heading_fault : List ℕ → Option CellFault
heading_fault line = first_of
    (when (has_bad_byte line) BadByte
    ∷ when (is_none (version_of line)) NotMagcell
    ∷ [])

-- A metric line with these words in a file of this version, behind lines with these contents.
unfoldable pub metric_fault : Version → Contents → List (List ℕ) → Option CellFault
metric_fault version before ws = first_of
    (when (not (length before.metrics == 0)) MetricTwice
    ∷ first_of (map (word_fault version) ws)
    ∷ when (not (is_metric_in_range (values ws))) MetricRange
    ∷ when (not (is_positive (metric_of (values ws)).entries)) NotPositive
    ∷ [])

-- An atom, where the words of its line are numbers.
unfoldable pub place_fault : Contents → AtomLine → Option CellFault
place_fault before a = first_of
    (when (not (are_positions_in_range (before.atoms ++ a ∷ []))) PositionRange
    ∷ when (not (are_moments_in_range (before.atoms ++ a ∷ []))) MomentRange
    ∷ same_place before.atoms a
    ∷ [])

-- A kind line. It stands before all atoms.
unfoldable pub kind_fault : Contents → Option CellFault
kind_fault before = first_of
    (when (not (length before.kinds == 0)) KindTwice
    ∷ when (not (length before.atoms == 0)) KindLate
    ∷ [])

-- so many numbers are x y z, or x y z with a moment of this kind
abbrev pub are_numbers_of : MomentKind → ℕ → Bool
are_numbers_of kind count = count == 3 || count == (if kind.vector then 6 else 4)

-- An atom line with this name and these words in such a file.
unfoldable pub atom_fault : Version → Contents → List ℕ → List (List ℕ) → Option CellFault
atom_fault version before name ws = first_of
    (when (not (are_numbers_of (kind_of before) (length ws))) BadLine
    ∷ when (nat_le MOST_ATOMS (length before.atoms)) TooManyAtoms
    ∷ first_of (map (word_fault version) ws)
    ∷ place_fault before (atom_line_of name (values ws))
    ∷ [])

-- An end line.
unfoldable pub end_fault : Contents → Option CellFault
end_fault before = first_of
    (when (length before.metrics == 0) MetricMissing
    ∷ when (length before.atoms == 0) NoAtom
    ∷ [])

-- A line of a file of this version, by its form.
abbrev pub entry_fault : Version → Contents → Entry → Option CellFault
entry_fault version before skipped = None
entry_fault version before (metric_entry ws) = metric_fault version before ws
entry_fault version before (atom_entry name ws) = atom_fault version before name ws
entry_fault version before end_entry = end_fault before
entry_fault version before (kind_entry kind) = kind_fault before
entry_fault version before other_entry = Some BadLine

abbrev pub is_skipped : Entry → Bool
is_skipped skipped = true
is_skipped (metric_entry ws) = false
is_skipped (atom_entry name ws) = false
is_skipped end_entry = false
is_skipped (kind_entry kind) = false
is_skipped other_entry = false

-- A later line of such a file, which is this entry. One that is skipped breaks no rule.
unfoldable pub later_fault : Version → Contents → List ℕ → Entry → Option CellFault
later_fault version before line entry = if is_skipped entry then None else first_of
    (when (has_bad_byte line) BadByte
    ∷ when before.ended AfterEnd
    ∷ entry_fault version before entry
    ∷ [])

-- The first rule that a line breaks. Where no version is known it is the first line, and is never skipped.
abbrev pub judged_by : Option Version → Contents → List ℕ → Option CellFault
judged_by None before line = heading_fault line
judged_by (Some version) before line = later_fault version before line (entry_of version line)

abbrev pub judged : State → List ℕ → Option CellFault
judged before line = judged_by before.version before.held line

abbrev pub fault_after : List (List ℕ) → List ℕ → Option CellFault
fault_after before line = judged (state_after before) line

-- An empty text is no cell file, and another must have an `end`.
abbrev pub fault_at_end : List (List ℕ) → Option CellFault
fault_at_end [] = Some NotMagcell
fault_at_end (first ∷ before) = when (not (contents (first ∷ before)).ended) NoEnd

-- a fault with the number of its line
abbrev pub numbered : ℕ → Option CellFault → Option (ℕ × CellFault)
numbered n None = None
numbered n (Some fault) = Some (n, fault)

-- The first of the second lines that breaks a rule, each judged with all lines that stand before it.
abbrev pub first_fault : List (List ℕ) → List (List ℕ) → Option (ℕ × CellFault)
first_fault before [] = numbered (length before + 1) (fault_at_end before)
first_fault before (line ∷ later) = elim (fault_after before line) [
  | Some fault ↦ Some (length before + 1, fault)
  | None ↦ first_fault (before ++ line ∷ []) later
]

unfoldable pub cell_fault : List ℕ → Option (ℕ × CellFault)
cell_fault text = first_fault [] (lines text)

-- The answer is the first fault, with its line; or there was not enough memory.
abbrev pub Tells : Option (ℕ × CellFault) → CellError → Type 0
Tells first answers.Memory = ⊤
Tells first (answers.Refused line fault) = first ≡ Some (line, fault)
