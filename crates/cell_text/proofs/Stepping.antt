-- The lines in turn.
use Rattle.std.proofs.Common.{◌≡◌, ℕ, ◌+◌, List, [], ◌∷◌, ◌++◌, length, Option, Some, None, refl, sym, ap, subst, ◌∙◌}
use Rattle.std.specs.Result.{IsErr, IsErrAnd}
use Rattle.std.specs.declared.result.Result.{Result}
use Rattle.std.specs.declared.result.Result.TheVariants.{Ok, Err}
use Rattle.cell_text.specs.declared.version.Version.{Version}
use Rattle.cell_text.specs.declared.fault.CellFault.{CellFault}
use Rattle.cell_text.specs.declared.fault.LineError.{LineError}
use Rattle.cell_text.specs.declared.fault.LineError.TheVariants as errors
use Rattle.cell_text.specs.Lines.{Entry, entry_of}
use Rattle.cell_text.specs.Entries.{State, state_with, with_entry, next_state, with_line, state_after}
use Rattle.cell_text.specs.Rules.{later_fault, judged_by, judged, fault_after, first_fault}
use Rattle.cell_text.specs.Views.{Refuses, Judges}
use Rattle.cell_text.proofs.Judging.{state_after-more}

-- a later line of a file whose version is known
pub judged-later : (s : State) (version : Version) (line : List ℕ) (entry : Entry) → s.version ≡ Some version → entry ≡ entry_of version line → later_fault version s.held line entry ≡ judged s line
judged-later s version line entry v e = ap (later_fault version s.held line) e ∙ ap (λ (o : Option Version). judged_by o s.held line) (sym v)

pub with_line-later : (s : State) (version : Version) (line : List ℕ) (entry : Entry) → s.version ≡ Some version → entry ≡ entry_of version line → state_with s.version (with_entry s.held entry) ≡ with_line s line
with_line-later s version line entry v e =
    ap (λ (o : Option Version). state_with o (with_entry s.held entry)) v ∙ ap (λ (f : Entry). state_with (Some version) (with_entry s.held f)) e ∙ ap (λ (o : Option Version). next_state o s.held line) (sym v)

-- an error that is this fault
pub judged_error : {X : Type 0} (r : Result X LineError) (f : Option CellFault) (rule : CellFault) → IsErr r → IsErrAnd r (λ e. e ≡ errors.Fault rule) → f ≡ Some rule → Judges f r
judged_error (Ok x) f rule is same q = absurd (cc is)
judged_error (Err e) f rule is same q = subst (Refuses f) (sym same) q

pub first-some : (before later : List (List ℕ)) (line : List ℕ) (f : CellFault) → fault_after before line ≡ Some f → first_fault before (line ∷ later) ≡ Some (length before + 1, f)
first-some before later line f e = rw (e, first_fault) refl

pub first-none : (before later : List (List ℕ)) (line : List ℕ) → fault_after before line ≡ None → first_fault before (line ∷ later) ≡ first_fault (before ++ line ∷ []) later
first-none before later line e = rw (e, first_fault) refl

pub more_state : (before : List (List ℕ)) (line : List ℕ) (s : State) → s ≡ with_line (state_after before) line → s ≡ state_after (before ++ line ∷ [])
more_state before line s e = e ∙ sym (state_after-more before line)
