-- How text is cut into lines, a line into words, and which bytes a line may have.
--   lines text                  the pieces between LFs, without one CR at the end of each
--   words_between blank line    the pieces between the bytes that are blanks
--   words line                  the pieces between spaces and tabs
--   words_between_spaces line   the pieces between spaces
--   is_plain_byte b             tab, or one of the bytes from space to `~`
--   has_bad_byte line           a byte of the line is not plain
-- Our own.
use Rattle.std.specs.Prelude.{ℕ, Bool, false, not, ◌==◌, ◌||◌, ◌&&◌, nat_le, List, [], ◌∷◌, map, if◌then◌else◌}
use Rattle.std.specs.List.{list_any}

-- ---- lines

-- The byte in front of the first piece, or a piece of its own where there is none.
abbrev pub with_byte : ℕ → List (List ℕ) → List (List ℕ)
with_byte b [] = (b ∷ []) ∷ []
with_byte b (piece ∷ later) = (b ∷ piece) ∷ later

-- LF ends a piece. Another byte belongs to the piece that begins behind it.
abbrev pub byte_then : ℕ → List (List ℕ) → List (List ℕ)
byte_then b later = if b == 10 then [] ∷ later else with_byte b later

-- The pieces between LFs. What stands behind the last LF is a piece unless it is empty.
abbrev pub pieces : List ℕ → List (List ℕ)
pieces [] = []
pieces (b ∷ text) = byte_then b (pieces text)

-- One such byte at the end is dropped.
abbrev pub without_last : ℕ → List ℕ → List ℕ
without_last last [] = []
without_last last (b ∷ []) = if b == last then [] else b ∷ []
without_last last (b ∷ c ∷ piece) = b ∷ without_last last (c ∷ piece)

-- One CR at the end is dropped.
abbrev pub without_return : List ℕ → List ℕ
without_return piece = without_last 13 piece

abbrev pub lines : List ℕ → List (List ℕ)
lines text = map without_return (pieces text)

-- ---- words

-- a word stands in front: the first byte is no blank
abbrev pub begins_word : (ℕ → Bool) → List ℕ → Bool
begins_word blank [] = false
begins_word blank (b ∷ line) = not (blank b)

-- A byte that is no blank belongs to the word that stands in front of what follows it; where none does, it is a word.
abbrev pub word_then : Bool → ℕ → Bool → List (List ℕ) → List (List ℕ)
word_then is_blank b follows later = if is_blank then later else if follows then with_byte b later else (b ∷ []) ∷ later

-- The pieces between blanks.
abbrev pub words_between : (ℕ → Bool) → List ℕ → List (List ℕ)
words_between blank [] = []
words_between blank (b ∷ line) = word_then (blank b) b (begins_word blank line) (words_between blank line)

-- a space
abbrev pub is_space : ℕ → Bool
is_space b = b == 32

-- a space or a tab
abbrev pub is_blank : ℕ → Bool
is_blank b = b == 32 || b == 9

-- The pieces between spaces and tabs.
abbrev pub words : List ℕ → List (List ℕ)
words line = words_between is_blank line

-- The pieces between spaces.
abbrev pub words_between_spaces : List ℕ → List (List ℕ)
words_between_spaces line = words_between is_space line

-- ---- bytes

-- tab, or one of the bytes from space to `~`
abbrev pub is_plain_byte : ℕ → Bool
is_plain_byte b = b == 9 || (nat_le 32 b && nat_le b 126)

abbrev pub is_bad_byte : ℕ → Bool
is_bad_byte b = not (is_plain_byte b)

unfoldable pub has_bad_byte : List ℕ → Bool
has_bad_byte line = list_any is_bad_byte line
