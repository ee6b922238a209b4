-- The lines and words of a printed text.
use Rattle.std.proofs.Common.{◌≡◌, ℕ, ◌^◌, ◌<◌, Bool, true, false, List, [], ◌∷◌, ◌++◌, length, map, refl, sym, ap, subst, ◌∙◌, arith, append-nil, append_assoc, leb}
use Rattle.std.specs.Prelude.{ℤ, unsigned_abs, ◌&&◌, ◌||◌, ◌==◌, not}
use Rattle.std.specs.List.{list_all, list_any}
use Rattle.std.proofs.lemmas.Bool.{ne_eqb, le-leb, leb-true, and_parts, and_from, or_from, or_right, not_from_true}
use Rattle.std.proofs.lemmas.List.Folds.{list_all-append}
use Rattle.plain_text.specs.Text.{lines, pieces, byte_then, without_return, words, is_blank, begins_word, is_bad_byte, has_bad_byte}
use Rattle.plain_text.specs.NumberText.{number_text, numbers_text}
use Rattle.plain_text.proofs.NumberWords.{is_word_byte, IsWord, number_text-is_word}

-- ---- words

not_blank : (b : ℕ) → is_word_byte b ≡ true → is_blank b ≡ false
not_blank b e =
    let low = leb-true 33 b (and_parts (leb 33 b) (leb b 126) e).0 in
    or_from (b == 32) (b == 9) (ne_eqb b 32 (λ same. omega (arith, same, low))) (ne_eqb b 9 (λ same. omega (arith, same, low)))

words_last : (w : List ℕ) → 0 < length w → list_all is_word_byte w ≡ true → words w ≡ w ∷ []
words_last [] h e = absurd (omega arith)
words_last (b ∷ []) h e =
    let p = and_parts (is_word_byte b) (list_all is_word_byte []) e in
    rw (not_blank b p.0) refl
words_last (b ∷ c ∷ w) h e =
    let p = and_parts (is_word_byte b) (list_all is_word_byte (c ∷ w)) e in
    let q = and_parts (is_word_byte c) (list_all is_word_byte w) p.1 in
    let next : begins_word is_blank (c ∷ w) ≡ true = ap not (not_blank c q.0) in
    let deeper = words_last (c ∷ w) (omega arith) p.1 in
    rw (not_blank b p.0, next, deeper) refl

-- A word in front of a space is the first word.
pub words_cut : (w line : List ℕ) → 0 < length w → list_all is_word_byte w ≡ true → words (w ++ 32 ∷ line) ≡ w ∷ words line
words_cut [] line h e = absurd (omega arith)
words_cut (b ∷ []) line h e =
    let p = and_parts (is_word_byte b) (list_all is_word_byte []) e in
    rw (not_blank b p.0) refl
words_cut (b ∷ c ∷ w) line h e =
    let p = and_parts (is_word_byte b) (list_all is_word_byte (c ∷ w)) e in
    let q = and_parts (is_word_byte c) (list_all is_word_byte w) p.1 in
    let next : begins_word is_blank (c ∷ (w ++ 32 ∷ line)) ≡ true = ap not (not_blank c q.0) in
    let deeper = words_cut (c ∷ w) line (omega arith) p.1 in
    rw (not_blank b p.0, next, deeper) refl

-- What follows a word has these words.
abbrev pub Follows : List ℕ → List (List ℕ) → Type 0
Follows rest ws = (w : List ℕ) → IsWord w → words (w ++ rest) ≡ w ∷ ws

-- Nothing follows the last word.
pub follows_end : Follows [] []
follows_end w h = ap words (append-nil w) ∙ words_last w h.some h.bytes

-- A space and a word are one word more.
pub follows_word : (v rest : List ℕ) (ws : List (List ℕ)) → IsWord v → Follows rest ws → Follows (32 ∷ (v ++ rest)) (v ∷ ws)
follows_word v rest ws hv f w h = words_cut w (v ++ rest) h.some h.bytes ∙ ap (λ (vs : List (List ℕ)). w ∷ vs) (f v hv)

-- numbers of at most 18 digits
abbrev pub AreSmall : List ℤ → Type 0
AreSmall [] = Unit {0}
AreSmall (z ∷ zs) = (unsigned_abs z < 10 ^ 18) × AreSmall zs

-- the texts of numbers in units of 1/d
abbrev pub number_texts : ℕ → List ℤ → List (List ℕ)
number_texts d [] = []
number_texts d (z ∷ zs) = number_text z d ∷ number_texts d zs

-- The words of printed numbers are their texts.
pub follows_numbers : (d : ℕ) (zs : List ℤ) (rest : List ℕ) (ws : List (List ℕ)) → d < 10 ^ 18 → AreSmall zs → Follows rest ws → Follows (numbers_text d zs ++ rest) (number_texts d zs ++ ws)
follows_numbers d [] rest ws h small f = f
follows_numbers d (z ∷ zs) rest ws h small f =
    let later = follows_numbers d zs rest ws h small.1 f in
    subst (λ (text : List ℕ). Follows text (number_text z d ∷ (number_texts d zs ++ ws))) (ap (λ (text : List ℕ). 32 ∷ text) (sym (append_assoc (number_text z d) (numbers_text d zs) rest))) (follows_word (number_text z d) (numbers_text d zs ++ rest) (number_texts d zs ++ ws) (number_text-is_word z d small.0 h) later)

-- ---- lines

-- a byte of a line: from space to `~`
abbrev pub is_line_byte : ℕ → Bool
is_line_byte b = leb 32 b && leb b 126

pieces_line : (l rest : List ℕ) → list_all is_line_byte l ≡ true → pieces (l ++ 10 ∷ rest) ≡ l ∷ pieces rest
pieces_line [] rest e = refl
pieces_line (b ∷ l) rest e =
    let p = and_parts (is_line_byte b) (list_all is_line_byte l) e in
    let low = leb-true 32 b (and_parts (leb 32 b) (leb b 126) p.0).0 in
    ap (byte_then b) (pieces_line l rest p.1) ∙ rw (ne_eqb b 10 (λ same. omega (arith, same, low))) refl

no_return : (l : List ℕ) → list_all is_line_byte l ≡ true → without_return l ≡ l
no_return [] e = refl
no_return (b ∷ []) e =
    let p = and_parts (is_line_byte b) (list_all is_line_byte []) e in
    let low = leb-true 32 b (and_parts (leb 32 b) (leb b 126) p.0).0 in
    rw (ne_eqb b 13 (λ same. omega (arith, same, low))) refl
no_return (b ∷ c ∷ l) e =
    let p = and_parts (is_line_byte b) (list_all is_line_byte (c ∷ l)) e in
    ap (λ (q : List ℕ). b ∷ q) (no_return (c ∷ l) p.1)

-- A line that ends with LF is the first line.
pub lines_line : (l rest : List ℕ) → list_all is_line_byte l ≡ true → lines (l ++ 10 ∷ rest) ≡ l ∷ lines rest
lines_line l rest e = ap (map without_return) (pieces_line l rest e) ∙ ap (λ (q : List ℕ). q ∷ lines rest) (no_return l e)

no_bad : (l : List ℕ) → list_all is_line_byte l ≡ true → list_any is_bad_byte l ≡ false
no_bad [] e = refl
no_bad (b ∷ l) e =
    let p = and_parts (is_line_byte b) (list_all is_line_byte l) e in
    or_from (is_bad_byte b) (list_any is_bad_byte l) (not_from_true (b == 9 || is_line_byte b) (or_right (b == 9) (is_line_byte b) p.0)) (no_bad l p.1)

-- Its bytes are good.
pub line-no_bad_byte : (l : List ℕ) → list_all is_line_byte l ≡ true → has_bad_byte l ≡ false
unfolding has_bad_byte
line-no_bad_byte l e = no_bad l e

-- the bytes of a word can stand in a line
pub word-line_bytes : (w : List ℕ) → list_all is_word_byte w ≡ true → list_all is_line_byte w ≡ true
word-line_bytes [] e = refl
word-line_bytes (b ∷ w) e =
    let p = and_parts (is_word_byte b) (list_all is_word_byte w) e in
    let q = and_parts (leb 33 b) (leb b 126) p.0 in
    let low = leb-true 33 b q.0 in
    and_from (is_line_byte b) (list_all is_line_byte w) (and_from (leb 32 b) (leb b 126) (le-leb 32 b (omega (arith, low))) q.1) (word-line_bytes w p.1)

-- The bytes of printed numbers can stand in a line.
pub numbers-line_bytes : (d : ℕ) (zs : List ℤ) → d < 10 ^ 18 → AreSmall zs → list_all is_line_byte (numbers_text d zs) ≡ true
numbers-line_bytes d [] h small = refl
numbers-line_bytes d (z ∷ zs) h small =
    list_all-append is_line_byte (number_text z d) (numbers_text d zs)
    ∙ and_from _ _ (word-line_bytes (number_text z d) (number_text-is_word z d small.0 h).bytes) (numbers-line_bytes d zs h small.1)
