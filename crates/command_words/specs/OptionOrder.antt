-- In which order the options of `symmetry` come.
--   Choice             an option, with its value where it has one
--   words_of choice    its words
--   words choices      the words of options, one after another
--   HasCount choice    its value has 1 to 9 digits, and nothing else
--   ComeInAnyOrder     two neighbours among the options may be exchanged
-- Our own.
use Rattle.std.specs.Prelude.{◌≡◌, ℕ, true, List, [], ◌∷◌, ◌++◌, codes}
use Rattle.command_words.specs.Commands.{command}
use Rattle.plain_text.specs.Digits.{is_count}

-- an option, with its value where it has one
pub data Choice : Type 0 where
  no_time_reversal : Choice
  skip_count : List ℕ → Choice
  take_count : List ℕ → Choice

-- the words of an option
abbrev pub words_of : Choice → List (List ℕ)
words_of no_time_reversal = codes "--no-time-reversal" ∷ []
words_of (skip_count value) = codes "--skip" ∷ value ∷ []
words_of (take_count value) = codes "--take" ∷ value ∷ []

-- the words of options, one after another
abbrev pub words : List Choice → List (List ℕ)
words [] = []
words (choice ∷ later) = words_of choice ++ words later

-- the value of the option, where it has one, has 1 to 9 digits and nothing else
abbrev pub HasCount : Choice → Type 0
HasCount no_time_reversal = Unit {0}
HasCount (skip_count value) = is_count value ≡ true
HasCount (take_count value) = is_count value ≡ true

-- Two neighbours among the options, each with a count where it has a value, may be exchanged, behind any options and before
-- any words: the words ask for the same, or have the same fault. So the order of the options does not matter.
abbrev pub ComeInAnyOrder : Type 0
ComeInAnyOrder = (front : List Choice) (a b : Choice) (later : List (List ℕ)) → HasCount a → HasCount b →
    command (codes "symmetry" ∷ (words front ++ (words_of a ++ words_of b ++ later))) ≡ command (codes "symmetry" ∷ (words front ++ (words_of b ++ words_of a ++ later)))
