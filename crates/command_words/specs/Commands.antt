-- What the words of the command line ask for.
--   count_of word        the value of 1 to 9 digits
--   Options              the options that were read so far, and what the next word has to be
--   with_word o word     with one more word, or its fault
--   asked o              what the options ask for, where no word is left
--   options o words      what the options ask for with all these words more, or the first fault from the left
--   alone c words        the command c, behind whose name no word may stand
--   first_word words     the first of the words
--   argument words       the word behind the command's name
--   one_more wanted words   what is wanted, where one word is left
--   seeded word          the run from a seed
--   from_seed words      the run from the seed that is the one word left
--   component_of word    a component of a moment: 1 to 9 digits, with a minus before them or none
--   filling words        the moment for an atom that the first four words give
--   filled words         the same, where four words are left
--   command_name word    the command that a word names
--   behind_name name words   what the words behind the name ask for
--   command words        the command, or the first fault from the left
--   ReadsCell command    the command reads a cell from the input
--   ReadsCellAlone command   it does, and reads nothing else; `fill`, which has refusals of its own, aside
--   ReadsTable command   it reads a cell and a table
-- The word behind `--skip` or `--take` is its value, whatever it is. An option that was given before is told as such also
-- where it has no value.
use Rattle.std.specs.Prelude.{ℕ, ℤ, pos, neg_ℤ, Bool, true, false, List, [], ◌∷◌, drop, nat_eq, if◌then◌else◌, codes}
use Rattle.std.specs.Cmp.Lexicographic.{pointwise}
use Rattle.std.specs.declared.option.Option.{Option}
use Rattle.std.specs.declared.option.Option.TheVariants.{Some, None}
use Rattle.std.specs.declared.result.Result.{Result}
use Rattle.std.specs.declared.result.Result.TheVariants.{Ok, Err}
use Rattle.plain_text.specs.Digits.{is_count, value_of_digits}
use Rattle.command_words.specs.declared.options.Awaited.TheVariants.{AnyOption, ValueOfSkip, ValueOfTake}
use Rattle.command_words.specs.declared.options.Options.{Options}
use Rattle.command_words.specs.declared.command.Command.{Command}
use Rattle.command_words.specs.declared.filling.Filling.{Filling}
use Rattle.command_words.specs.declared.command.Command.TheVariants.{Symmetry, Primitive, Dataset, Orbits, Hall, Identify, Standard, Compare, Moments, Fill, Selfrun}
use Rattle.command_words.specs.declared.command.CommandName.{CommandName}
use Rattle.command_words.specs.declared.command.UsageFault.{UsageFault}
use Rattle.command_words.specs.declared.command.UsageFault.TheVariants.{NoCommand, UnknownCommand, UnknownOption, RepeatedOption, MissingValue, BadValue, MissingWord, ExtraWord}

-- the two words have the same bytes
abbrev pub same_word : List ℕ → List ℕ → Bool
same_word v w = pointwise nat_eq v w

-- the value of 1 to 9 digits
abbrev pub count_of : List ℕ → Result ℕ UsageFault
count_of word = if is_count word then Ok (value_of_digits word) else Err BadValue

-- no option was read
abbrev pub no_options : Options
no_options = record { time = true; skip = None; take = None; awaited = AnyOption }

-- `--no-time-reversal`
abbrev pub without_time : Options → Result Options UsageFault
without_time o = if o.time then Ok (record { time = false; skip = o.skip; take = o.take; awaited = AnyOption }) else Err RepeatedOption

-- `--skip`, whose value is the next word
abbrev pub awaiting_skip : Options → Result Options UsageFault
awaiting_skip o = elim o.skip [ None ↦ Ok (record { time = o.time; skip = None; take = o.take; awaited = ValueOfSkip }) | Some count ↦ Err RepeatedOption ]

-- `--take`, whose value is the next word
abbrev pub awaiting_take : Options → Result Options UsageFault
awaiting_take o = elim o.take [ None ↦ Ok (record { time = o.time; skip = o.skip; take = None; awaited = ValueOfTake }) | Some count ↦ Err RepeatedOption ]

-- a word in the place of an option
abbrev pub with_option : Options → List ℕ → Result Options UsageFault
with_option o word =
    if same_word word (codes "--no-time-reversal") then without_time o
    else if same_word word (codes "--skip") then awaiting_skip o
    else if same_word word (codes "--take") then awaiting_take o
    else Err UnknownOption

-- the value of `--skip`
abbrev pub with_skip : Options → List ℕ → Result Options UsageFault
with_skip o word = elim (count_of word) [ Ok count ↦ Ok (record { time = o.time; skip = Some count; take = o.take; awaited = AnyOption }) | Err fault ↦ Err fault ]

-- the value of `--take`
abbrev pub with_take : Options → List ℕ → Result Options UsageFault
with_take o word = elim (count_of word) [ Ok count ↦ Ok (record { time = o.time; skip = o.skip; take = Some count; awaited = AnyOption }) | Err fault ↦ Err fault ]

-- one more word: an option, or the value of the option before it
abbrev pub with_word : Options → List ℕ → Result Options UsageFault
with_word o word = elim o.awaited [ AnyOption ↦ with_option o word | ValueOfSkip ↦ with_skip o word | ValueOfTake ↦ with_take o word ]

-- all operations with time reversal, none left out and none too many, unless an option says otherwise
abbrev pub command_of : Options → Command
command_of o = Symmetry o.time (elim o.skip [ None ↦ 0 | Some count ↦ count ]) o.take

-- where no word is left, no value may be wanting
abbrev pub asked : Options → Result Command UsageFault
asked o = elim o.awaited [ AnyOption ↦ Ok (command_of o) | ValueOfSkip ↦ Err MissingValue | ValueOfTake ↦ Err MissingValue ]

-- word by word from the left
abbrev pub options : Options → List (List ℕ) → Result Command UsageFault
options o [] = asked o
options o (word ∷ later) = elim (with_word o word) [ Ok read ↦ options read later | Err fault ↦ Err fault ]

-- no word is left
abbrev pub alone : Command → List (List ℕ) → Result Command UsageFault
alone c [] = Ok c
alone c (word ∷ later) = Err ExtraWord

-- the first of the words that are left; no bytes where there is none
abbrev pub first_word : List (List ℕ) → List ℕ
first_word [] = []
first_word (word ∷ later) = word

-- the word behind the name
abbrev pub argument : List (List ℕ) → List ℕ
argument words = first_word (drop 1 words)

-- one word is left: a missing one and those too many are told before what is wrong with it
abbrev pub one_more : Result Command UsageFault → List (List ℕ) → Result Command UsageFault
one_more wanted [] = Err MissingWord
one_more wanted (word ∷ []) = wanted
one_more wanted (word ∷ other ∷ later) = Err ExtraWord

-- the seed has 1 to 9 digits
abbrev pub seeded : List ℕ → Result Command UsageFault
seeded word = elim (count_of word) [ Ok seed ↦ Ok (Selfrun seed) | Err fault ↦ Err fault ]

-- the run from the seed that is the one word left
abbrev pub from_seed : List (List ℕ) → Result Command UsageFault
from_seed words = one_more (seeded (first_word words)) words

-- the value of the digits, less than 0 behind a minus
abbrev pub component_of : List ℕ → Result ℤ UsageFault
component_of [] = Err BadValue
component_of (b ∷ later) =
    if nat_eq b 45 then elim (count_of later) [ Ok size ↦ Ok (neg_ℤ (pos size)) | Err fault ↦ Err fault ]
    else elim (count_of (b ∷ later)) [ Ok size ↦ Ok (pos size) | Err fault ↦ Err fault ]

-- the number of an atom, and the three components
abbrev pub filling : List (List ℕ) → Result Command UsageFault
filling words = elim (count_of (first_word words)) [
  | Ok atom ↦ elim (component_of (first_word (drop 1 words))) [
    | Ok a ↦ elim (component_of (first_word (drop 2 words))) [
      | Ok b ↦ elim (component_of (first_word (drop 3 words))) [
        | Ok c ↦ Ok (Fill (record { atom = atom; a = a; b = b; c = c }))
        | Err fault ↦ Err fault
      ]
      | Err fault ↦ Err fault
    ]
    | Err fault ↦ Err fault
  ]
  | Err fault ↦ Err fault
]

-- four words are left: a missing one and those too many are told before what is wrong with one
abbrev pub filled : List (List ℕ) → Result Command UsageFault
filled [] = Err MissingWord
filled (i ∷ []) = Err MissingWord
filled (i ∷ a ∷ []) = Err MissingWord
filled (i ∷ a ∷ b ∷ []) = Err MissingWord
filled (i ∷ a ∷ b ∷ c ∷ []) = filling (i ∷ a ∷ b ∷ c ∷ [])
filled (i ∷ a ∷ b ∷ c ∷ other ∷ later) = Err ExtraWord

-- the command that a word names
abbrev pub command_name : List ℕ → Option CommandName
command_name word =
    if same_word word (codes "symmetry") then Some CommandName.Symmetry
    else if same_word word (codes "primitive") then Some CommandName.Primitive
    else if same_word word (codes "dataset") then Some CommandName.Dataset
    else if same_word word (codes "orbits") then Some CommandName.Orbits
    else if same_word word (codes "hall") then Some CommandName.Hall
    else if same_word word (codes "identify") then Some CommandName.Identify
    else if same_word word (codes "standard") then Some CommandName.Standard
    else if same_word word (codes "compare") then Some CommandName.Compare
    else if same_word word (codes "moments") then Some CommandName.Moments
    else if same_word word (codes "fill") then Some CommandName.Fill
    else if same_word word (codes "selfrun") then Some CommandName.Selfrun
    else None

-- what the words behind the name ask for
abbrev pub behind_name : CommandName → List (List ℕ) → Result Command UsageFault
behind_name CommandName.Symmetry words = options no_options words
behind_name CommandName.Primitive words = alone Primitive words
behind_name CommandName.Dataset words = alone Dataset words
behind_name CommandName.Orbits words = alone Orbits words
behind_name CommandName.Hall words = one_more (Ok Hall) words
behind_name CommandName.Identify words = one_more (Ok Identify) words
behind_name CommandName.Standard words = one_more (Ok Standard) words
behind_name CommandName.Compare words = one_more (Ok Compare) words
behind_name CommandName.Moments words = alone Moments words
behind_name CommandName.Fill words = filled words
behind_name CommandName.Selfrun words = from_seed words

-- the first word is the name
abbrev pub command : List (List ℕ) → Result Command UsageFault
command [] = Err NoCommand
command (name ∷ later) = elim (command_name name) [ Some named ↦ behind_name named later | None ↦ Err UnknownCommand ]

-- `hall` and `selfrun` read no input
abbrev pub ReadsCell : Command → Type 0
ReadsCell (Symmetry time skip take) = Unit {0}
ReadsCell Primitive = Unit {0}
ReadsCell Dataset = Unit {0}
ReadsCell Orbits = Unit {0}
ReadsCell Hall = ⊥
ReadsCell Identify = Unit {0}
ReadsCell Standard = Unit {0}
ReadsCell Compare = Unit {0}
ReadsCell Moments = Unit {0}
ReadsCell (Fill f) = Unit {0}
ReadsCell (Selfrun seed) = ⊥

-- they read a cell, and no file
abbrev pub ReadsCellAlone : Command → Type 0
ReadsCellAlone (Symmetry time skip take) = Unit {0}
ReadsCellAlone Primitive = Unit {0}
ReadsCellAlone Dataset = Unit {0}
ReadsCellAlone Orbits = Unit {0}
ReadsCellAlone Hall = ⊥
ReadsCellAlone Identify = ⊥
ReadsCellAlone Standard = ⊥
ReadsCellAlone Compare = ⊥
ReadsCellAlone Moments = Unit {0}
ReadsCellAlone (Fill f) = ⊥
ReadsCellAlone (Selfrun seed) = ⊥

-- they read a cell and a table
abbrev pub ReadsTable : Command → Type 0
ReadsTable (Symmetry time skip take) = ⊥
ReadsTable Primitive = ⊥
ReadsTable Dataset = ⊥
ReadsTable Orbits = ⊥
ReadsTable Hall = ⊥
ReadsTable Identify = Unit {0}
ReadsTable Standard = Unit {0}
ReadsTable Compare = ⊥
ReadsTable Moments = ⊥
ReadsTable (Fill f) = ⊥
ReadsTable (Selfrun seed) = ⊥
