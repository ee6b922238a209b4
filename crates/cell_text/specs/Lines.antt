-- The lines of a cell file, by their words.
--   version_of line      the version that the first line tells, or none where it tells none
--   kind_of_words ws     the kind of moments that the words behind `kind` tell, or none where they tell none
--   Entry, entry_of v l  what a later line of a file of this version is, with the words that it carries
--   word_fault v w       the rule that a word breaks that is to be a number, in a file of this version
-- The format is our own.
use Rattle.std.specs.Prelude.{ℕ, Bool, true, false, ◌==◌, ◌||◌, ◌&&◌, List, [], ◌∷◌, length, get_or, if◌then◌else◌, nat_eq, codes}
use Rattle.std.specs.Cmp.Lexicographic.{pointwise}
use Rattle.std.specs.declared.option.Option.{Option}
use Rattle.std.specs.declared.option.Option.TheVariants.{Some, None}
use Rattle.crystal_spec.specs.declared.MomentKind.{MomentKind}
use Rattle.crystal.specs.Names.{is_name}
use Rattle.plain_text.specs.Text.{words}
use Rattle.plain_text.specs.declared.number_form.NumberForm.{NumberForm}
use Rattle.plain_text.specs.declared.number_form.NumberForm.TheVariants as forms
use Rattle.plain_text.specs.declared.fault.NumberFault.{NumberFault}
use Rattle.plain_text.specs.declared.fault.NumberFault.TheVariants as numbers
use Rattle.plain_text.specs.NumberWords.{number_fault}
use Rattle.cell_text.specs.declared.version.Version.{Version}
use Rattle.cell_text.specs.declared.version.Version.TheVariants.{One, Two}
use Rattle.cell_text.specs.declared.fault.CellFault.{CellFault}
use Rattle.cell_text.specs.declared.fault.CellFault.TheVariants.{BadNumber, NumberRange, ZeroDenominator}

-- byte by byte
abbrev pub same_word : List ℕ → List ℕ → Bool
same_word v w = pointwise nat_eq v w

-- ---- the first line

abbrev pub magcell_word : List ℕ
magcell_word = codes "magcell"

abbrev pub one_word : List ℕ
one_word = codes "1"

abbrev pub two_word : List ℕ
two_word = codes "2"

-- by the word behind `magcell`
abbrev pub version_numbered : List ℕ → Option Version
version_numbered word = if same_word word one_word then Some One else (if same_word word two_word then Some Two else None)

-- `magcell 1` or `magcell 2`
abbrev pub version_of_words : List (List ℕ) → Option Version
version_of_words ws = if length ws == 2 && same_word (get_or ws 0 []) magcell_word then version_numbered (get_or ws 1 []) else None

unfoldable pub version_of : List ℕ → Option Version
version_of line = version_of_words (words line)

-- ---- the later lines

abbrev pub metric_word : List ℕ
metric_word = codes "metric"

abbrev pub atom_word : List ℕ
atom_word = codes "atom"

abbrev pub end_word : List ℕ
end_word = codes "end"

abbrev pub kind_word : List ℕ
kind_word = codes "kind"

-- What a line is.
pub data Entry : Type 0 where
  -- a line with no words, or a comment
  skipped : Entry
  -- a metric line, with the words that are to be numbers
  metric_entry : List (List ℕ) → Entry
  -- an atom line, with the name and the words that are to be numbers
  atom_entry : List ℕ → List (List ℕ) → Entry
  -- an end line
  end_entry : Entry
  -- a kind line, with the kind of moments
  kind_entry : MomentKind → Entry
  -- a line of another form
  other_entry : Entry

-- the word begins with `#`
abbrev pub begins_comment : List ℕ → Bool
begins_comment [] = false
begins_comment (b ∷ word) = b == 35

-- behind the word `metric`: aa bb cc bc ac ab, whatever the six words are
abbrev pub behind_metric : List (List ℕ) → Entry
behind_metric ws = if length ws == 6 then metric_entry ws else other_entry

-- behind the word `atom`: NAME x y z, NAME x y z s or NAME x y z ma mb mc, whatever the words behind the name are
abbrev pub behind_atom : List (List ℕ) → Entry
behind_atom [] = other_entry
behind_atom (name ∷ ws) = if is_name name && (length ws == 3 || length ws == 4 || length ws == 6) then atom_entry name ws else other_entry

-- behind the word `end`: nothing
abbrev pub behind_end : List (List ℕ) → Entry
behind_end ws = if length ws == 0 then end_entry else other_entry

-- whether moments are vectors
abbrev pub vector_of : List ℕ → Option Bool
vector_of word = if same_word word (codes "vector") then Some true else (if same_word word (codes "scalar") then Some false else None)

-- whether they are axial
abbrev pub axial_of : List ℕ → Option Bool
axial_of word = if same_word word (codes "axial") then Some true else (if same_word word (codes "plain") then Some false else None)

-- where nothing else is said, vectors are axial and scalars are not
abbrev pub kind_by_default : Option Bool → Option MomentKind
kind_by_default None = None
kind_by_default (Some vector) = Some (record { vector = vector; axial = vector })

abbrev pub kind_with : Option Bool → Option Bool → Option MomentKind
kind_with None axial = None
kind_with (Some vector) None = None
kind_with (Some vector) (Some axial) = Some (record { vector = vector; axial = axial })

-- `vector` or `scalar`, and behind it `axial`, `plain` or nothing
abbrev pub kind_of_words : List (List ℕ) → Option MomentKind
kind_of_words [] = None
kind_of_words (shape ∷ []) = kind_by_default (vector_of shape)
kind_of_words (shape ∷ factor ∷ []) = kind_with (vector_of shape) (axial_of factor)
kind_of_words (shape ∷ factor ∷ more ∷ ws) = None

abbrev pub kind_line : Option MomentKind → Entry
kind_line None = other_entry
kind_line (Some kind) = kind_entry kind

-- Behind the word `kind`, which only version 2 has.
abbrev pub behind_kind : Version → List (List ℕ) → Entry
behind_kind One ws = other_entry
behind_kind Two ws = kind_line (kind_of_words ws)

-- behind a first word
abbrev pub entry_behind : Version → List ℕ → List (List ℕ) → Entry
entry_behind version first ws =
    if begins_comment first then skipped
    else (if same_word first metric_word then behind_metric ws
    else (if same_word first atom_word then behind_atom ws
    else (if same_word first end_word then behind_end ws
    else (if same_word first kind_word then behind_kind version ws
    else other_entry))))

-- by the words of the line
abbrev pub entry_of_words : Version → List (List ℕ) → Entry
entry_of_words version [] = skipped
entry_of_words version (first ∷ ws) = entry_behind version first ws

unfoldable pub entry_of : Version → List ℕ → Entry
entry_of version line = entry_of_words version (words line)

-- ---- number words

-- the rule that is broken
abbrev pub rule_of : NumberFault → CellFault
rule_of numbers.BadNumber = BadNumber
rule_of numbers.NumberRange = NumberRange
rule_of numbers.ZeroDenominator = ZeroDenominator

abbrev pub rule_of_any : Option NumberFault → Option CellFault
rule_of_any None = None
rule_of_any (Some fault) = Some (rule_of fault)

-- Version 1 has fractions alone, version 2 decimals too.
abbrev pub number_form : Version → NumberForm
number_form One = forms.Fraction
number_form Two = forms.FractionOrDecimal

-- the rule that a word breaks that is to be a number
unfoldable pub word_fault : Version → List ℕ → Option CellFault
word_fault version word = rule_of_any (number_fault (number_form version) word)
