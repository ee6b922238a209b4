-- The lines of a printed cell, and their words.
use Rattle.std.proofs.Common.{◌≡◌, ℕ, ◌^◌, ◌<◌, ◌≤◌, Bool, true, false, List, [], ◌∷◌, ◌++◌, length, get_or, refl, ap, subst, ◌∙◌, arith, append-nil, append_assoc, leb}
use Rattle.std.specs.Prelude.{ℤ, unsigned_abs, ◌&&◌, ◌||◌, ◌==◌, if◌then◌else◌, nat_le}
use Rattle.std.specs.List.{list_all}
use Rattle.std.specs.Char.{is_ascii_alphabetic, is_ascii_digit}
use Rattle.std.proofs.lemmas.Bool.{le-leb, leb-true, eqb-true, and_parts, and_from, or_cases}
use Rattle.std.proofs.Common.{inl, inr}
use Rattle.std.proofs.lemmas.List.Folds.{list_all-append}
use Rattle.crystal_spec.specs.declared.MomentKind.{MomentKind}
use Rattle.crystal_spec.specs.Matrices.{Triple}
use Rattle.crystal_spec.specs.Moments.{IsOfKind}
use Rattle.crystal_spec.specs.Crystals.{Atom, Structure}
use Rattle.crystal.specs.Names.{is_name, is_name_byte, are_name_bytes}
use Rattle.plain_text.specs.Text.{lines, words}
use Rattle.cell_text.specs.Lines.{metric_word, atom_word, end_word}
use Rattle.plain_text.specs.NumberText.{numbers_text}
use Rattle.cell_print.specs.CellFileText.{scalar_products, coordinates, position_text, is_nothing, moment_numbers, moment_text, atom_text, atoms_text, metric_and_atoms_text, cell_file_text}
use Rattle.plain_text.proofs.NumberWords.{is_word_byte, IsWord}
use Rattle.cell_print.proofs.FirstLines.{heading_line, kind_lines, first_lines-cut}
use Rattle.cell_print.proofs.TextCuts.{AreSmall, Follows, follows_end, follows_numbers, number_texts, is_line_byte, lines_line, word-line_bytes, numbers-line_bytes, words_cut}

-- ---- names

letter_byte : (b : ℕ) → is_name_byte b ≡ true → is_word_byte b ≡ true
letter_byte b e = bounds b (cases b e)
  where
    bounds : (b : ℕ) → (33 ≤ b) × (b ≤ 126) → is_word_byte b ≡ true
    bounds b h = and_from (leb 33 b) (leb b 126) (le-leb 33 b h.0) (le-leb b 126 h.1)

    within : (low high b : ℕ) → 33 ≤ low → high ≤ 126 → (leb low b && leb b high) ≡ true → (33 ≤ b) × (b ≤ 126)
    within low high b hl hh e =
        let p = and_parts (leb low b) (leb b high) e in
        (omega (arith, hl, leb-true low b p.0), omega (arith, hh, leb-true b high p.1))

    cases : (b : ℕ) → is_name_byte b ≡ true → (33 ≤ b) × (b ≤ 126)
    cases b e = elim (or_cases (is_ascii_alphabetic b || is_ascii_digit b) (b == 95) e) [
      | inl front ↦ elim (or_cases (is_ascii_alphabetic b) (is_ascii_digit b) front) [
        | inl letter ↦ elim (or_cases (leb 65 b && leb b 90) (leb 97 b && leb b 122) letter) [
          | inl upper ↦ within 65 90 b (omega arith) (omega arith) upper
          | inr lower ↦ within 97 122 b (omega arith) (omega arith) lower
        ]
        | inr digit ↦ within 48 57 b (omega arith) (omega arith) digit
      ]
      | inr line ↦ let same : b ≡ 95 = eqb-true b 95 line in (omega (arith, same), omega (arith, same))
    ]

letters_bytes : (w : List ℕ) → list_all is_name_byte w ≡ true → list_all is_word_byte w ≡ true
letters_bytes [] e = refl
letters_bytes (b ∷ w) e =
    let p = and_parts (is_name_byte b) (list_all is_name_byte w) e in
    and_from (is_word_byte b) (list_all is_word_byte w) (letter_byte b p.0) (letters_bytes w p.1)

-- A name is a word.
pub name-is_word : (w : List ℕ) → is_name w ≡ true → IsWord w
name-is_word [] e = absurd cc
name-is_word (b ∷ w) e =
    let p = and_parts (is_ascii_alphabetic b && are_name_bytes w) (nat_le (length w) 7) e in
    let q = and_parts (is_ascii_alphabetic b) (are_name_bytes w) p.0 in
    let first : is_name_byte b ≡ true = rw q.0 refl in
    record { some = omega arith; bytes = and_from (is_word_byte b) (list_all is_word_byte w) (letter_byte b first) (letters_bytes w q.1) }

-- ---- the lines

-- the metric line, without its LF
abbrev pub metric_line : Structure → List ℕ
metric_line c = metric_word ++ numbers_text (unsigned_abs c.scale) (scalar_products c.metric)

-- the name of an atom
abbrev pub name_of : Structure → Atom → List ℕ
name_of c s = get_or c.names s.species []

-- the line of an atom, without its LF
abbrev pub atom_line : Structure → Atom → List ℕ
atom_line c s = atom_word ++ 32 ∷ (name_of c s ++ (position_text c.n s.position ++ moment_text c.kind c.k s.moment))

-- What is known of an atom: its name, the sizes of its numbers, and that its moment is of the kind of the cell.
pub record IsPlain (c : Structure) (s : Atom) : Type 0 where
  pub name : is_name (name_of c s) ≡ true
  pub position : AreSmall (coordinates s.position)
  pub moment : AreSmall (coordinates s.moment)
  pub of_kind : IsOfKind c.kind s.moment

-- this is known of each atom
abbrev pub ArePlain : Structure → List Atom → Type 0
ArePlain c [] = Unit {0}
ArePlain c (s ∷ atoms) = IsPlain c s × ArePlain c atoms

-- the words of a moment
abbrev pub moment_words : MomentKind → ℕ → Triple → List (List ℕ)
moment_words kind k m = if is_nothing m then [] else number_texts k (moment_numbers kind m)

-- The numbers of a moment are as small as its components.
pub moment_numbers-small : (kind : MomentKind) (m : Triple) → AreSmall (coordinates m) → AreSmall (moment_numbers kind m)
moment_numbers-small kind m small = by kind.vector
  where
    by : (vector : Bool) → AreSmall (if vector then coordinates m else m.x ∷ [])
    by true = small
    by false = (small.0, tt)

-- printed numbers at the end of a line
follows_last : (d : ℕ) (zs : List ℤ) → d < 10 ^ 18 → AreSmall zs → Follows (numbers_text d zs) (number_texts d zs)
follows_last d zs h small =
    subst (λ (text : List ℕ). Follows text (number_texts d zs)) (append-nil (numbers_text d zs)) (subst (λ (ws : List (List ℕ)). Follows (numbers_text d zs ++ []) ws) (append-nil (number_texts d zs)) (follows_numbers d zs [] [] h small follows_end))

follows_moment : (kind : MomentKind) (k : ℕ) (m : Triple) → k < 10 ^ 18 → AreSmall (coordinates m) → Follows (moment_text kind k m) (moment_words kind k m)
follows_moment kind k m h small = by (is_nothing m)
  where
    by : (b : Bool) → Follows (if b then [] else numbers_text k (moment_numbers kind m)) (if b then [] else number_texts k (moment_numbers kind m))
    by true = follows_end
    by false = follows_last k (moment_numbers kind m) h (moment_numbers-small kind m small)

-- The words of an atom line.
pub atom_line-words : (c : Structure) (s : Atom) → c.n < 10 ^ 18 → c.k < 10 ^ 18 → IsPlain c s → words (atom_line c s) ≡ atom_word ∷ name_of c s ∷ (number_texts c.n (coordinates s.position) ++ moment_words c.kind c.k s.moment)
atom_line-words c s hn hk plain =
    words_cut atom_word (name_of c s ++ (position_text c.n s.position ++ moment_text c.kind c.k s.moment)) (omega arith) refl
    ∙ ap (λ (ws : List (List ℕ)). atom_word ∷ ws) (follows_numbers c.n (coordinates s.position) (moment_text c.kind c.k s.moment) (moment_words c.kind c.k s.moment) hn plain.position (follows_moment c.kind c.k s.moment hk plain.moment) (name_of c s) (name-is_word (name_of c s) plain.name))

-- The words of the metric line.
pub metric_line-words : (c : Structure) → unsigned_abs c.scale < 10 ^ 18 → AreSmall (scalar_products c.metric) → words (metric_line c) ≡ metric_word ∷ number_texts (unsigned_abs c.scale) (scalar_products c.metric)
metric_line-words c h small = follows_last (unsigned_abs c.scale) (scalar_products c.metric) h small metric_word (record { some = omega arith; bytes = refl })

-- ---- their bytes

moment-bytes : (kind : MomentKind) (k : ℕ) (m : Triple) → k < 10 ^ 18 → AreSmall (coordinates m) → list_all is_line_byte (moment_text kind k m) ≡ true
moment-bytes kind k m h small = by (is_nothing m)
  where
    by : (b : Bool) → list_all is_line_byte (if b then [] else numbers_text k (moment_numbers kind m)) ≡ true
    by true = refl
    by false = numbers-line_bytes k (moment_numbers kind m) h (moment_numbers-small kind m small)

-- The bytes of an atom line can stand in a line.
pub atom_line-bytes : (c : Structure) (s : Atom) → c.n < 10 ^ 18 → c.k < 10 ^ 18 → IsPlain c s → list_all is_line_byte (atom_line c s) ≡ true
atom_line-bytes c s hn hk plain =
    list_all-append is_line_byte (name_of c s) (position_text c.n s.position ++ moment_text c.kind c.k s.moment)
    ∙ and_from _ _ (word-line_bytes (name_of c s) (name-is_word (name_of c s) plain.name).bytes)
    (list_all-append is_line_byte (position_text c.n s.position) (moment_text c.kind c.k s.moment) ∙ and_from _ _ (numbers-line_bytes c.n (coordinates s.position) hn plain.position) (moment-bytes c.kind c.k s.moment hk plain.moment))

-- And so can those of the metric line.
pub metric_line-bytes : (c : Structure) → unsigned_abs c.scale < 10 ^ 18 → AreSmall (scalar_products c.metric) → list_all is_line_byte (metric_line c) ≡ true
metric_line-bytes c h small = numbers-line_bytes (unsigned_abs c.scale) (scalar_products c.metric) h small

-- ---- the text in lines

atom_text-line : (c : Structure) (s : Atom) (rest : List ℕ) → atom_text c s ++ rest ≡ atom_line c s ++ 10 ∷ rest
unfolding atom_text
atom_text-line c s rest = ap (λ (text : List ℕ). 97 ∷ 116 ∷ 111 ∷ 109 ∷ 32 ∷ text) (pieces (name_of c s) (position_text c.n s.position) (moment_text c.kind c.k s.moment) rest)
  where
    pieces : (a b d e : List ℕ) → (a ++ (b ++ (d ++ 10 ∷ []))) ++ e ≡ (a ++ (b ++ d)) ++ 10 ∷ e
    pieces a b d e = simp append_assoc

-- the lines of these atoms
abbrev pub atom_lines : Structure → List Atom → List (List ℕ)
atom_lines c [] = []
atom_lines c (s ∷ atoms) = atom_line c s ∷ atom_lines c atoms

atoms_text-lines : (c : Structure) (atoms : List Atom) (rest : List ℕ) → c.n < 10 ^ 18 → c.k < 10 ^ 18 → ArePlain c atoms → lines (atoms_text c atoms ++ rest) ≡ atom_lines c atoms ++ lines rest
atoms_text-lines c [] rest hn hk plain = refl
atoms_text-lines c (s ∷ atoms) rest hn hk plain =
    ap lines (append_assoc (atom_text c s) (atoms_text c atoms) rest ∙ atom_text-line c s (atoms_text c atoms ++ rest))
    ∙ lines_line (atom_line c s) (atoms_text c atoms ++ rest) (atom_line-bytes c s hn hk plain.0)
    ∙ ap (λ (ls : List (List ℕ)). atom_line c s ∷ ls) (atoms_text-lines c atoms rest hn hk plain.1)

-- The lines of the printed text.
pub cell_file_text-lines : (c : Structure) → unsigned_abs c.scale < 10 ^ 18 → c.n < 10 ^ 18 → c.k < 10 ^ 18 → AreSmall (scalar_products c.metric) → ArePlain c c.atoms → lines (cell_file_text c) ≡ heading_line c.kind ∷ (kind_lines c.kind ++ metric_line c ∷ (atom_lines c c.atoms ++ end_word ∷ []))
cell_file_text-lines c hd hn hk small plain =
    first_lines-cut c.kind (metric_and_atoms_text c)
    ∙ ap (λ (ls : List (List ℕ)). heading_line c.kind ∷ (kind_lines c.kind ++ ls))
    (ap lines (pieces (metric_line c) (atoms_text c c.atoms))
    ∙ lines_line (metric_line c) (atoms_text c c.atoms ++ (end_word ++ 10 ∷ [])) (metric_line-bytes c hd small)
    ∙ ap (λ (ls : List (List ℕ)). metric_line c ∷ ls) (atoms_text-lines c c.atoms (end_word ++ 10 ∷ []) hn hk plain))
  where
    pieces : (b d : List ℕ) → ((b ++ 10 ∷ []) ++ d) ++ (end_word ++ 10 ∷ []) ≡ b ++ 10 ∷ (d ++ (end_word ++ 10 ∷ []))
    pieces b d = simp append_assoc
