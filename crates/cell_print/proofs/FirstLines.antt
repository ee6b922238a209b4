-- The first line of a printed cell and its kind line: they break no rule, and tell the version and the kind of the moments.
-- Each fact is one of four cases, which are computed.
use Rattle.std.proofs.Common.{◌≡◌, ℕ, Bool, true, false, List, [], ◌∷◌, ◌++◌, get_or, Some, None, refl, ap, ◌∙◌}
use Rattle.std.specs.Prelude.{◌&&◌, if◌then◌else◌, codes}
use Rattle.crystal_spec.specs.declared.MomentKind.{MomentKind}
use Rattle.crystal_spec.specs.Moments.{axial_vectors}
use Rattle.plain_text.specs.Text.{lines, has_bad_byte}
use Rattle.cell_text.specs.declared.version.Version.{Version}
use Rattle.cell_text.specs.declared.version.Version.TheVariants.{One, Two}
use Rattle.cell_text.specs.Lines.{version_of, entry_of}
use Rattle.cell_text.specs.Entries.{Contents, state_with, state_after}
use Rattle.cell_text.specs.Rules.{heading_fault, kind_fault, later_fault, fault_after}
use Rattle.cell_print.specs.CellFileText.{heading_text, kind_text}
use Rattle.cell_print.proofs.TextCuts.{lines_line}

-- the kind of vectors or scalars that are axial or not
abbrev pub kind_as : Bool → Bool → MomentKind
kind_as vector axial = record { vector = vector; axial = axial }

-- ---- the lines

-- the first line, without its LF
abbrev pub heading_line : MomentKind → List ℕ
heading_line kind = if kind.vector && kind.axial then codes "magcell 1" else codes "magcell 2"

-- the kind line, or none
abbrev pub kind_lines : MomentKind → List (List ℕ)
kind_lines kind =
    if kind.vector then (if kind.axial then [] else codes "kind vector plain" ∷ [])
    else (if kind.axial then codes "kind scalar axial" ∷ [] else codes "kind scalar plain" ∷ [])

-- both
abbrev pub first_lines : MomentKind → List (List ℕ)
first_lines kind = heading_line kind ∷ kind_lines kind

lines_by : (vector axial : Bool) (rest : List ℕ) →
    lines (heading_text (kind_as vector axial) ++ (kind_text (kind_as vector axial) ++ rest)) ≡ heading_line (kind_as vector axial) ∷ (kind_lines (kind_as vector axial) ++ lines rest)
lines_by true true rest = lines_line (codes "magcell 1") rest refl
lines_by true false rest =
    lines_line (codes "magcell 2") (codes "kind vector plain" ++ 10 ∷ rest) refl ∙ ap (λ (ls : List (List ℕ)). codes "magcell 2" ∷ ls) (lines_line (codes "kind vector plain") rest refl)
lines_by false true rest =
    lines_line (codes "magcell 2") (codes "kind scalar axial" ++ 10 ∷ rest) refl ∙ ap (λ (ls : List (List ℕ)). codes "magcell 2" ∷ ls) (lines_line (codes "kind scalar axial") rest refl)
lines_by false false rest =
    lines_line (codes "magcell 2") (codes "kind scalar plain" ++ 10 ∷ rest) refl ∙ ap (λ (ls : List (List ℕ)). codes "magcell 2" ∷ ls) (lines_line (codes "kind scalar plain") rest refl)

-- They are the first lines of the text.
pub first_lines-cut : (kind : MomentKind) (rest : List ℕ) → lines (heading_text kind ++ (kind_text kind ++ rest)) ≡ heading_line kind ∷ (kind_lines kind ++ lines rest)
first_lines-cut kind rest = lines_by kind.vector kind.axial rest

-- ---- what they tell

-- the version
abbrev pub version_of_kind : MomentKind → Version
version_of_kind kind = if kind.vector && kind.axial then One else Two

-- the kinds that the lines tell
abbrev pub kinds_told : MomentKind → List MomentKind
kinds_told kind = if kind.vector && kind.axial then [] else kind ∷ []

-- the contents behind them
abbrev pub first_held : MomentKind → Contents
first_held kind = record { kinds = kinds_told kind; metrics = []; atoms = []; ended = false }

told_by : (vector axial : Bool) → get_or (kinds_told (kind_as vector axial)) 0 axial_vectors ≡ kind_as vector axial
told_by true true = refl
told_by true false = refl
told_by false true = refl
told_by false false = refl

-- They tell the kind.
pub kind-told : (kind : MomentKind) → get_or (kinds_told kind) 0 axial_vectors ≡ kind
kind-told kind = told_by kind.vector kind.axial

held_by : (vector axial : Bool) → state_after (first_lines (kind_as vector axial)) ≡ state_with (Some (version_of_kind (kind_as vector axial))) (first_held (kind_as vector axial))
unfolding state_after version_of entry_of
held_by true true = refl
held_by true false = refl
held_by false true = refl
held_by false false = refl

-- Behind them the version and the kind are known.
pub first_lines-held : (kind : MomentKind) → state_after (first_lines kind) ≡ state_with (Some (version_of_kind kind)) (first_held kind)
first_lines-held kind = held_by kind.vector kind.axial

-- ---- they break no rule

heading_by : (vector axial : Bool) → fault_after [] (heading_line (kind_as vector axial)) ≡ None
unfolding state_after heading_fault has_bad_byte version_of
heading_by true true = refl
heading_by true false = refl
heading_by false true = refl
heading_by false false = refl

-- The first line is one of version 1 or 2.
pub heading-none : (kind : MomentKind) → fault_after [] (heading_line kind) ≡ None
heading-none kind = heading_by kind.vector kind.axial

-- The kind lines are those of version 2.
pub plain_vectors-none : fault_after (codes "magcell 2" ∷ []) (codes "kind vector plain") ≡ None
unfolding state_after version_of later_fault has_bad_byte entry_of kind_fault
plain_vectors-none = refl

pub axial_scalars-none : fault_after (codes "magcell 2" ∷ []) (codes "kind scalar axial") ≡ None
unfolding state_after version_of later_fault has_bad_byte entry_of kind_fault
axial_scalars-none = refl

pub plain_scalars-none : fault_after (codes "magcell 2" ∷ []) (codes "kind scalar plain") ≡ None
unfolding state_after version_of later_fault has_bad_byte entry_of kind_fault
plain_scalars-none = refl
