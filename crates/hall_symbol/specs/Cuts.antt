-- How the text of a symbol is cut.
--   skip_spaces text     the text without the spaces in front
--   before_byte c text   what stands in front of the first c, all where there is none
--   from_byte c text     the text from the first c on, nothing where there is none
--   first text           the first byte, 0 where there is none
--   begins c text        c stands in front
--   without c text       the text without one c in front
--   first_word text, behind_first_word text   the first word between spaces, and what stands behind it
-- Words between spaces are those of plain_text's `specs/Text`. Our own.
use Rattle.std.specs.Prelude.{ℕ, Bool, false, ◌==◌, List, [], ◌∷◌, if◌then◌else◌}
use Rattle.plain_text.specs.Text.{is_space}

abbrev pub skip_spaces : List ℕ → List ℕ
skip_spaces [] = []
skip_spaces (b ∷ text) = if is_space b then skip_spaces text else b ∷ text

abbrev pub before_byte : ℕ → List ℕ → List ℕ
before_byte c [] = []
before_byte c (b ∷ text) = if b == c then [] else b ∷ before_byte c text

abbrev pub from_byte : ℕ → List ℕ → List ℕ
from_byte c [] = []
from_byte c (b ∷ text) = if b == c then b ∷ text else from_byte c text

abbrev pub first : List ℕ → ℕ
first [] = 0
first (b ∷ text) = b

-- c stands in front
abbrev pub begins : ℕ → List ℕ → Bool
begins c [] = false
begins c (b ∷ text) = b == c

abbrev pub without : ℕ → List ℕ → List ℕ
without c [] = []
without c (b ∷ text) = if b == c then text else b ∷ text

abbrev pub first_word : List ℕ → List ℕ
first_word text = before_byte 32 (skip_spaces text)

abbrev pub behind_first_word : List ℕ → List ℕ
behind_first_word text = from_byte 32 (skip_spaces text)
