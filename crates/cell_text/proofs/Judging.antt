-- What is known behind one line more, and of the words of an entry.
use Rattle.std.proofs.Common.{◌≡◌, ℕ, ◌<◌, ◌≤◌, Bool, true, false, Option, Some, None, List, [], ◌∷◌, ◌++◌, length, map, get_or, refl, arith}
use Rattle.std.specs.Prelude.{◌&&◌, ◌||◌, ◌==◌, if◌then◌else◌}
use Rattle.std.proofs.lemmas.Bool.{and_parts, eqb-true}
use Rattle.crystal_spec.specs.declared.MomentKind.{MomentKind}
use Rattle.crystal.specs.Names.{is_name}
use Rattle.plain_text.specs.Text.{words}
use Rattle.cell_text.specs.declared.version.Version.{Version}
use Rattle.cell_text.specs.declared.version.Version.TheVariants.{One, Two}
use Rattle.cell_text.specs.Lines.{same_word, metric_word, atom_word, end_word, kind_word, Entry, skipped, metric_entry, atom_entry, end_entry, kind_entry, other_entry, begins_comment, behind_metric, behind_atom, behind_end, kind_of_words, kind_line, behind_kind, entry_behind, entry_of_words, entry_of}
use Rattle.cell_text.specs.Entries.{start, with_line, state_after}
use Rattle.plain_text.proofs.DigitLemmas.{fold-append}

-- ---- one line more

pub state_after-more : (before : List (List ℕ)) (line : List ℕ) → state_after (before ++ line ∷ []) ≡ with_line (state_after before) line
unfolding state_after
state_after-more before line = fold-append with_line start before (line ∷ [])

-- ---- six words

-- a list of six words behind `metric`
pub six_words : {X : Type 0} (f : X → List ℕ) (ws : List X) (d : X) → 6 ≤ length ws → length ws < 7 → metric_entry (f (get_or ws 0 d) ∷ f (get_or ws 1 d) ∷ f (get_or ws 2 d) ∷ f (get_or ws 3 d) ∷ f (get_or ws 4 d) ∷ f (get_or ws 5 d) ∷ []) ≡ behind_metric (map f ws)
six_words f (t ∷ u ∷ v ∷ x ∷ y ∷ z ∷ []) d h k = refl
six_words f ws d h k = absurd (omega arith)

-- ---- entries

-- A metric line has six number words, and an atom line names a species.
abbrev pub IsEntry : Entry → Type 0
IsEntry skipped = Unit {0}
IsEntry (metric_entry ws) = length ws ≡ 6
IsEntry (atom_entry name ws) = is_name name ≡ true
IsEntry end_entry = Unit {0}
IsEntry (kind_entry kind) = Unit {0}
IsEntry other_entry = Unit {0}

-- of two entries by a test
by_test : (b : Bool) (e f : Entry) → (b ≡ true → IsEntry e) → IsEntry f → IsEntry (if b then e else f)
by_test true e f h k = h refl
by_test false e f h k = k

metric_is : (ws : List (List ℕ)) → IsEntry (behind_metric ws)
metric_is ws = by_test (length ws == 6) (metric_entry ws) other_entry (λ e. eqb-true (length ws) 6 e) tt

atom_is : (ws : List (List ℕ)) → IsEntry (behind_atom ws)
atom_is [] = tt
atom_is (name ∷ ws) = by_test (is_name name && (length ws == 3 || length ws == 4 || length ws == 6)) (atom_entry name ws) other_entry (λ e. (and_parts (is_name name) _ e).0) tt

end_is : (ws : List (List ℕ)) → IsEntry (behind_end ws)
end_is ws = by_test (length ws == 0) end_entry other_entry (λ e. tt) tt

line_is : (kind : Option MomentKind) → IsEntry (kind_line kind)
line_is None = tt
line_is (Some kind) = tt

kind_is : (version : Version) (ws : List (List ℕ)) → IsEntry (behind_kind version ws)
kind_is One ws = tt
kind_is Two ws = line_is (kind_of_words ws)

behind_is : (version : Version) (first : List ℕ) (ws : List (List ℕ)) → IsEntry (entry_behind version first ws)
behind_is version first ws =
    by_test (begins_comment first) skipped _ (λ e. tt)
    (by_test (same_word first metric_word) (behind_metric ws) _ (λ e. metric_is ws)
    (by_test (same_word first atom_word) (behind_atom ws) _ (λ e. atom_is ws)
    (by_test (same_word first end_word) (behind_end ws) _ (λ e. end_is ws)
    (by_test (same_word first kind_word) (behind_kind version ws) other_entry (λ e. kind_is version ws) tt))))

words_are : (version : Version) (ws : List (List ℕ)) → IsEntry (entry_of_words version ws)
words_are version [] = tt
words_are version (first ∷ ws) = behind_is version first ws

-- each line is an entry
pub entry_is : (version : Version) (line : List ℕ) → IsEntry (entry_of version line)
unfolding entry_of
entry_is version line = words_are version (words line)
