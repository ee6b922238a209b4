-- The line of an atom: its words, its entry and what it says.
use Rattle.std.proofs.Common.{◌≡◌, ℕ, zero, suc, ◌<◌, ◌≤◌, true, None, List, [], ◌∷◌, ◌++◌, map, refl, ap, ◌∙◌, arith, length-append}
use Rattle.std.specs.Prelude.{ℤ, pos, codes, length}
use Rattle.std.specs.List.{list_all}
use Rattle.std.proofs.lemmas.Bool.{and_from}
use Rattle.std.proofs.lemmas.List.Folds.{list_all-append}
use Rattle.numbers.specs.Gcd.{gcd}
use Rattle.numbers.specs.Fraction.{Fraction, whole, lowest}
use Rattle.crystal_spec.specs.Moments.{axial_vectors}
use Rattle.plain_text.specs.Text.{words}
use Rattle.plain_text.specs.NumberWords.{number_fault, number_value}
use Rattle.plain_text.specs.FirstFaults.{first_of}
use Rattle.plain_text.proofs.NumberWords.{IsWord}
use Rattle.cell_text.specs.declared.version.Version.TheVariants.{One}
use Rattle.cell_text.specs.Lines.{atom_word, word_fault, atom_entry, entry_of_words, entry_of}
use Rattle.cell_text.specs.Entries.{AtomLine, values, atom_line_of}
use Rattle.cell_text.specs.Rules.{are_numbers_of}
use Rattle.cell_text.proofs.WordFaults.{word_passes}
use Rattle.cell_print.proofs.TextCuts.{Follows, follows_end, follows_word, is_line_byte, word-line_bytes}
use Rattle.generated_cell.specs.GeneratedText.{Node, eighths, moment_text, draw_at, atom_line}
use Rattle.generated_cell.specs.GeneratedCell.{component}
use Rattle.generated_cell.proofs.Eighths.{eighths-is_word, eighths-length, eighth, eighths-no_fault, eighths-value}

-- a node of the grid
pub record InGrid (v : Node) : Type 0 where
  pub i : v.i < 8
  pub j : v.j < 8
  pub k : v.k < 8

-- ---- its words

-- the words of a moment
abbrev pub moment_words : ℕ → List (List ℕ)
moment_words zero = []
moment_words (suc zero) = codes "0" ∷ codes "0" ∷ codes "1" ∷ []
moment_words (suc (suc d)) = codes "0" ∷ codes "0" ∷ codes "-1" ∷ []

-- the number words
abbrev pub atom_words : List ℕ → Node → List (List ℕ)
atom_words ds v = eighths v.i ∷ eighths v.j ∷ eighths v.k ∷ moment_words (draw_at ds v)

zero_word : IsWord (codes "0")
zero_word = record { some = omega arith; bytes = refl }

follows_moment : (d : ℕ) → Follows (moment_text d) (moment_words d)
follows_moment zero = follows_end
follows_moment (suc zero) = follows_word (codes "0") _ _ zero_word (follows_word (codes "0") _ _ zero_word (follows_word (codes "1") [] [] (record { some = omega arith; bytes = refl }) follows_end))
follows_moment (suc (suc d)) = follows_word (codes "0") _ _ zero_word (follows_word (codes "0") _ _ zero_word (follows_word (codes "-1") [] [] (record { some = omega arith; bytes = refl }) follows_end))

atom_line-words : (ds : List ℕ) (v : Node) → InGrid v → words (atom_line ds v) ≡ atom_word ∷ codes "A" ∷ atom_words ds v
unfolding atom_line
atom_line-words ds v h =
    let third = follows_word (eighths v.k) (moment_text (draw_at ds v)) (moment_words (draw_at ds v)) (eighths-is_word v.k h.k) (follows_moment (draw_at ds v)) in
    let second = follows_word (eighths v.j) _ _ (eighths-is_word v.j h.j) third in
    let first = follows_word (eighths v.i) _ _ (eighths-is_word v.i h.i) second in
    follows_word (codes "A") _ _ (record { some = omega arith; bytes = refl }) first atom_word (record { some = omega arith; bytes = refl })

-- ---- its entry

has_count : (x y z : List ℕ) (d : ℕ) → entry_of_words One (atom_word ∷ codes "A" ∷ x ∷ y ∷ z ∷ moment_words d) ≡ atom_entry (codes "A") (x ∷ y ∷ z ∷ moment_words d)
has_count x y z zero = refl
has_count x y z (suc zero) = refl
has_count x y z (suc (suc d)) = refl

-- It is an atom line.
pub atom_line-is : (ds : List ℕ) (v : Node) → InGrid v → entry_of One (atom_line ds v) ≡ atom_entry (codes "A") (atom_words ds v)
unfolding entry_of
atom_line-is ds v h = ap (entry_of_words One) (atom_line-words ds v h) ∙ has_count (eighths v.i) (eighths v.j) (eighths v.k) (draw_at ds v)

count_is : (x y z : List ℕ) (d : ℕ) → are_numbers_of axial_vectors (length (x ∷ y ∷ z ∷ moment_words d)) ≡ true
count_is x y z zero = refl
count_is x y z (suc zero) = refl
count_is x y z (suc (suc d)) = refl

-- It has as many number words as an atom line of vectors.
pub atom_line-count : (ds : List ℕ) (v : Node) → are_numbers_of axial_vectors (length (atom_words ds v)) ≡ true
atom_line-count ds v = count_is (eighths v.i) (eighths v.j) (eighths v.k) (draw_at ds v)

moment-no_fault : (d : ℕ) → first_of (map (word_fault One) (moment_words d)) ≡ None
unfolding word_fault number_fault
moment-no_fault zero = refl
moment-no_fault (suc zero) = refl
moment-no_fault (suc (suc d)) = refl

-- Its words behind the name are numbers.
pub atom_line-no_fault : (ds : List ℕ) (v : Node) → InGrid v → first_of (map (word_fault One) (atom_words ds v)) ≡ None
atom_line-no_fault ds v h =
    rw (word_passes One (eighths v.i) (eighths-no_fault v.i h.i), word_passes One (eighths v.j) (eighths-no_fault v.j h.j), word_passes One (eighths v.k) (eighths-no_fault v.k h.k)) (moment-no_fault (draw_at ds v))

-- ---- what it says

-- an atom at this position, in eighths
abbrev pub atom_with : Fraction → Fraction → Fraction → ℤ → AtomLine
atom_with x y z m = record { name = codes "A"; x = x; y = y; z = z; ma = whole (pos 0); mb = whole (pos 0); mc = whole m }

-- the atom at a node
abbrev pub atom_at : List ℕ → Node → AtomLine
atom_at ds v = atom_with (eighth v.i) (eighth v.j) (eighth v.k) (component (draw_at ds v))

moment-read : (x y z : List ℕ) (d : ℕ) → atom_line_of (codes "A") (values (x ∷ y ∷ z ∷ moment_words d)) ≡ atom_with (number_value x) (number_value y) (number_value z) (component d)
unfolding number_value lowest gcd
moment-read x y z zero = refl
moment-read x y z (suc zero) = refl
moment-read x y z (suc (suc d)) = refl

-- It says the atom.
pub atom_line-read : (ds : List ℕ) (v : Node) → InGrid v → atom_line_of (codes "A") (values (atom_words ds v)) ≡ atom_at ds v
atom_line-read ds v h =
    let x = eighths-value v.i h.i in
    let y = eighths-value v.j h.j in
    let z = eighths-value v.k h.k in
    moment-read (eighths v.i) (eighths v.j) (eighths v.k) (draw_at ds v) ∙ (λ t. atom_with (x t) (y t) (z t) (component (draw_at ds v)))

-- ---- its bytes

moment-bytes : (d : ℕ) → list_all is_line_byte (moment_text d) ≡ true
moment-bytes zero = refl
moment-bytes (suc zero) = refl
moment-bytes (suc (suc d)) = refl

with_word : (i : ℕ) (rest : List ℕ) → i < 8 → list_all is_line_byte rest ≡ true → list_all is_line_byte (eighths i ++ rest) ≡ true
with_word i rest h e = list_all-append is_line_byte (eighths i) rest ∙ and_from _ _ (word-line_bytes (eighths i) (eighths-is_word i h).bytes) e

-- They can stand in a line.
pub atom_line-bytes : (ds : List ℕ) (v : Node) → InGrid v → list_all is_line_byte (atom_line ds v) ≡ true
unfolding atom_line
atom_line-bytes ds v h = with_word v.i _ h.i (with_word v.j _ h.j (with_word v.k _ h.k (moment-bytes (draw_at ds v))))

-- ---- its length

moment-length : (d : ℕ) → length (moment_text d) ≤ 7
moment-length zero = omega arith
moment-length (suc zero) = omega arith
moment-length (suc (suc d)) = omega arith

-- It is short.
pub atom_line-length : (ds : List ℕ) (v : Node) → InGrid v → length (atom_line ds v) ≤ 25
unfolding atom_line
atom_line-length ds v h =
    let m = moment_text (draw_at ds v) in
    let third : length (eighths v.k ++ m) ≤ 10 = omega (arith, length-append (eighths v.k) m, eighths-length v.k h.k, moment-length (draw_at ds v)) in
    let second : length (eighths v.j ++ 32 ∷ (eighths v.k ++ m)) ≤ 14 = omega (arith, length-append (eighths v.j) (32 ∷ (eighths v.k ++ m)), eighths-length v.j h.j, third) in
    omega (arith, length-append (eighths v.i) (32 ∷ (eighths v.j ++ 32 ∷ (eighths v.k ++ m))), eighths-length v.i h.i, second)
