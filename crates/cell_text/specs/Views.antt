-- What the values of the code stand for.
--   atom_view a, entry_view form   the atom of a line, and what the line is
--   ReadsWords v ws IsRead result  the result is read from these number words of a file of this version, or is the first rule
--                                  that one of them breaks
--   Judges fault result            the result is this fault, or the fault is none; memory may always want
--   AreApart as                    no two of these atoms stand at one position
--   AreOfKind kind as              where moments are scalars, each of these is s 0 0
use Rattle.std.specs.Prelude.{◌≡◌, ⊤, ℕ, true, false, not, List, [], ◌∷◌, ◌++◌, map, MatchResult}
use Rattle.std.specs.List.{list_all}
use Rattle.std.specs.declared.option.Option.{Option}
use Rattle.std.specs.declared.option.Option.TheVariants.{Some, None}
use Rattle.std.specs.declared.result.Result.{Result}
use Rattle.std.specs.declared.result.Result.TheVariants.{Ok, Err}
use Rattle.numbers.specs.Fraction.{Fraction}
use Rattle.crystal_spec.specs.declared.MomentKind.{MomentKind}
use Rattle.plain_text.specs.Views.{fraction_of}
use Rattle.cell_text.specs.declared.version.Version.{Version}
use Rattle.cell_text.specs.declared.fault.CellFault.{CellFault}
use Rattle.cell_text.specs.declared.fault.CellError.{CellError}
use Rattle.cell_text.specs.declared.fault.CellError.TheVariants as answers
use Rattle.cell_text.specs.declared.fault.LineError.{LineError}
use Rattle.cell_text.specs.declared.fault.LineError.TheVariants as errors
use Rattle.cell_text.specs.declared.three.ThreeWords.{ThreeWords}
use Rattle.cell_text.specs.declared.three.ThreeNumbers.{ThreeNumbers}
use Rattle.cell_text.specs.declared.three.MomentWords.{MomentWords}
use Rattle.cell_text.specs.declared.three.MomentWords.TheVariants as moments
use Rattle.cell_text.specs.declared.form.Form.{Form}
use Rattle.cell_text.specs.declared.form.Form.TheVariants as forms
use Rattle.cell_text.specs.declared.atom_line.AtomLine.{AtomLine as CodeAtom}
use Rattle.plain_text.specs.FirstFaults.{first_of}
use Rattle.cell_text.specs.Lines.{word_fault, Entry, skipped, metric_entry, atom_entry, end_entry, kind_entry, other_entry}
use Rattle.cell_text.specs.Entries.{is_same_place, AtomLine, number_at, nothing}

-- the three words
abbrev pub words_view : ThreeWords → List (List ℕ)
words_view ws = ws.a.now ∷ ws.b.now ∷ ws.c.now ∷ []

-- the three numbers
abbrev pub numbers_view : ThreeNumbers → List Fraction
numbers_view fs = fraction_of fs.a ∷ fraction_of fs.b ∷ fraction_of fs.c ∷ []

-- the first three of these numbers, 0 where they end before
abbrev pub first_three : List Fraction → List Fraction
first_three fs = number_at fs 0 ∷ number_at fs 1 ∷ number_at fs 2 ∷ []

-- no word, one, or three
abbrev pub moment_view : MomentWords → List (List ℕ)
moment_view moments.Absent = []
moment_view (moments.Scalar w) = w.now ∷ []
moment_view (moments.Vector ws) = words_view ws

abbrev pub entry_view : Form → Entry
entry_view forms.Skipped = skipped
entry_view (forms.Metric squares products) = metric_entry (words_view squares ++ words_view products)
entry_view (forms.Atom name position moment) = atom_entry name (words_view position ++ moment_view moment)
entry_view forms.End = end_entry
entry_view (forms.Kind kind) = kind_entry kind
entry_view forms.Other = other_entry

abbrev pub atom_view : CodeAtom → AtomLine
atom_view a = record {
  name = a.name;
  x = fraction_of a.position.a;
  y = fraction_of a.position.b;
  z = fraction_of a.position.c;
  ma = fraction_of a.moment.a;
  mb = fraction_of a.moment.b;
  mc = fraction_of a.moment.c;
}

-- This is read from words that are numbers in a file of this version, or is the first rule that one of them breaks.
abbrev pub ReadsWords : {X : Type 0} → Version → List (List ℕ) → (X → Type 0) → Result X CellFault → Type 0
ReadsWords version ws IsRead result = MatchResult result (λ x. (first_of (map (word_fault version) ws) ≡ None) × IsRead x) (λ fault. first_of (map (word_fault version) ws) ≡ Some fault)

-- a refusal whose fault should be this; memory may always want
abbrev pub Refuses : Option CellFault → LineError → Type 0
Refuses fault errors.Memory = ⊤
Refuses fault (errors.Fault f) = fault ≡ Some f

-- why no cell was read, where this is why the line with this number was not
abbrev pub error_at : ℕ → LineError → CellError
error_at line errors.Memory = answers.Memory
error_at line (errors.Fault fault) = answers.Refused line fault

-- a line's answer, whose fault should be this
abbrev pub Judges : {X : Type 0} → Option CellFault → Result X LineError → Type 0
Judges fault (Ok x) = fault ≡ None
Judges fault (Err e) = Refuses fault e

-- no two of these atoms stand at one position
abbrev pub AreApart : List AtomLine → Type 0
AreApart [] = Unit {0}
AreApart (a ∷ held) = (list_all (λ b. not (is_same_place a b)) held ≡ true) × AreApart held

-- the second and third component of the moment are 0
abbrev pub IsOfScalar : AtomLine → Type 0
IsOfScalar a = (a.mb ≡ nothing) × (a.mc ≡ nothing)

-- where moments are scalars, these are
abbrev pub AreOfKind : MomentKind → List AtomLine → Type 0
AreOfKind kind [] = Unit {0}
AreOfKind kind (a ∷ held) = (kind.vector ≡ false → IsOfScalar a) × AreOfKind kind held
