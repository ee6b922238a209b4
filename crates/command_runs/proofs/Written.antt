-- What was written, or was refused, is the outcome of the words that asked for it.
use Rattle.std.proofs.Common.{◌≡◌, ◌⊎◌, refl, sym, subst, ℕ, suc, Bool, true, false, List, inl, inr}
use Rattle.std.specs.Prelude.{IfOk, OnErr}
use Rattle.std.specs.declared.result.Result.{Result}
use Rattle.std.specs.declared.result.Result.TheVariants.{Ok, Err}
use Rattle.io_edge.specs.States.{ShelfState}
use Rattle.crystal_spec.specs.Crystals.{Structure}
use Rattle.hall_text.specs.declared.rows.Row.{Row}
use Rattle.command_words.specs.declared.command.Command.{Command}
use Rattle.command_words.specs.declared.command.Command.TheVariants.{Symmetry, Primitive, Dataset, Orbits, Hall, Identify, Standard, Compare, Moments, Fill, Selfrun}
use Rattle.command_words.specs.declared.filling.Filling.{Filling}
use Rattle.command_words.specs.declared.command.UsageFault.{UsageFault}
use Rattle.command_words.specs.Commands.{command, argument, ReadsCell, ReadsCellAlone, ReadsTable}
use Rattle.command_words.specs.Fillings.{IsSmall, HasSmallMoment}
use Rattle.report_basis.specs.declared.Kept.{Kept}
use Rattle.report_basis.specs.declared.Kept.TheVariants.{Back, Two}
use Rattle.answers.specs.declared.answer.Answer.{Answer}
use Rattle.answers.specs.declared.answer.Answer.TheVariants as answers
use Rattle.answers.specs.Answers.{IsAnswer, IsHallAnswer, IsSeedAnswer, IsTableAnswer, IsCompareAnswer, IsFillAnswer}
use Rattle.run_status.specs.declared.status.Status.{Status}
use Rattle.run_status.specs.declared.status.Status.TheVariants.{Done, NoMatch, Different, NotAllowed, Usage, CellTooLong, CellRefused, NoSuchAtom, OtherTooLong, OtherRefused, SymbolRefused, TableRefused, TableTooLong, ReadFault, WriteFault, Memory, TooWide}
use Rattle.command_runs.specs.Outcomes.{Streams, Outcome, AnswersTo, IsReportOnInput, IsReportOnTable, HasTable, LeavesInput, IsTableWanted, IsOtherWanted, SpellsInput, MayWantMemory, WritesReport, limit_of, TakesFile}
use Rattle.command_runs.specs.Writings.{IsWritten, IsTold, IsFinished, IsTakenUpTo, RefusesInput, RefusesTable, IsCellOf, RefusesOther}

-- ---- reports

-- a report that was written, whole as this status says or a part of it
written_outcome : (ws : List (List ℕ)) (s : Streams) (request : Command) (kept : Kept) (matched : Bool) (report : List ℕ) (whole status : Status) → command ws ≡ Ok request → AnswersTo request (argument ws) s kept matched report →
    (WritesReport ws s kept matched → Outcome ws s whole) → IsWritten s.out_highest s.output s.output_after report kept whole status → Outcome ws s status
written_outcome ws s request kept matched report whole status asked answers here (inl w) =
    subst (λ (u : Status). Outcome ws s u) (sym w.same) (here (record {
      report = report;
      answers = record { request = request; asked = asked; answers = answers };
      appended = w.appended;
    }))
written_outcome ws s request kept matched report whole status asked answers here (inr w) =
    subst (λ (u : Status). Outcome ws s u) (sym w.same) (record {
      report = report;
      matched = matched;
      answers = record { request = request; asked = asked; answers = answers };
      fewer = w.fewer;
      appended = w.appended;
      cause = w.cause;
    })

-- an answer that was told, or want of memory for one
pub finished_outcome : {E : Type 0} (ws : List (List ℕ)) (s : Streams) (request : Command) (P : Answer → Type 0) (r : Result Answer E) (status : Status) → command ws ≡ Ok request → IfOk r P → OnErr r (MayWantMemory request (argument ws)) →
    ((answer : Answer) → P answer → IsTold s.out_highest s.output s.output_after answer status → Outcome ws s status) → IsFinished s.out_highest s.output s.output_after r status → Outcome ws s status
finished_outcome ws s request P (Ok answer) status asked is may told finished = told answer is finished
finished_outcome ws s request P (Err error) status asked is may told finished =
    subst (λ (u : Status). Outcome ws s u) (sym finished) (record { request = request; asked = asked; may = may })

-- what holds holds of a refusal
pub of_refusal : {X E : Type 0} (r : Result X E) (P : Type 0) → P → OnErr r P
of_refusal (Ok x) P p = tt
of_refusal (Err error) P p = p

-- ---- commands

-- the report of a command that reads a cell, and no file, is the one on the crystal of the input
answers_on_input : (request : Command) (word : List ℕ) (s : Streams) (kept : Kept) (report : List ℕ) → ReadsCellAlone request → IsReportOnInput request s kept report → AnswersTo request word s kept true report
answers_on_input (Symmetry time skip most) word s kept report reads r = (refl, r)
answers_on_input Primitive word s kept report reads r = (refl, r)
answers_on_input Dataset word s kept report reads r = (refl, r)
answers_on_input Orbits word s kept report reads r = (refl, r)
answers_on_input Hall word s kept report reads r = absurd reads
answers_on_input Identify word s kept report reads r = absurd reads
answers_on_input Standard word s kept report reads r = absurd reads
answers_on_input Compare word s kept report reads r = absurd reads
answers_on_input Moments word s kept report reads r = (refl, r)
answers_on_input (Fill f) word s kept report reads r = absurd reads
answers_on_input (Selfrun seed) word s kept report reads r = absurd reads

-- that of a command that reads a table is the one on both
answers_on_table : (request : Command) (word : List ℕ) (s : Streams) (kept : Kept) (matched : Bool) (report : List ℕ) → ReadsTable request → IsReportOnTable request word s kept matched report → AnswersTo request word s kept matched report
answers_on_table (Symmetry time skip most) word s kept matched report reads r = absurd reads
answers_on_table Primitive word s kept matched report reads r = absurd reads
answers_on_table Dataset word s kept matched report reads r = absurd reads
answers_on_table Orbits word s kept matched report reads r = absurd reads
answers_on_table Hall word s kept matched report reads r = absurd reads
answers_on_table Identify word s kept matched report reads r = r
answers_on_table Standard word s kept matched report reads r = r
answers_on_table Compare word s kept matched report reads r = absurd reads
answers_on_table Moments word s kept matched report reads r = absurd reads
answers_on_table (Fill f) word s kept matched report reads r = absurd reads
answers_on_table (Selfrun seed) word s kept matched report reads r = absurd reads

-- they read a cell
pub reads_cell : (request : Command) → ReadsCellAlone request → ReadsCell request
reads_cell (Symmetry time skip most) reads = tt
reads_cell Primitive reads = tt
reads_cell Dataset reads = tt
reads_cell Orbits reads = tt
reads_cell Hall reads = absurd reads
reads_cell Identify reads = absurd reads
reads_cell Standard reads = absurd reads
reads_cell Compare reads = absurd reads
reads_cell Moments reads = tt
reads_cell (Fill f) reads = absurd reads
reads_cell (Selfrun seed) reads = absurd reads

pub table_reads_cell : (request : Command) → ReadsTable request → ReadsCell request
table_reads_cell (Symmetry time skip most) reads = absurd reads
table_reads_cell Primitive reads = absurd reads
table_reads_cell Dataset reads = absurd reads
table_reads_cell Orbits reads = absurd reads
table_reads_cell Hall reads = absurd reads
table_reads_cell Identify reads = tt
table_reads_cell Standard reads = tt
table_reads_cell Compare reads = absurd reads
table_reads_cell Moments reads = absurd reads
table_reads_cell (Fill f) reads = absurd reads
table_reads_cell (Selfrun seed) reads = absurd reads

-- in the work of a command that reads a cell memory may be wanting
pub cell_wants_memory : (request : Command) (word : List ℕ) → ReadsCell request → MayWantMemory request word
cell_wants_memory (Symmetry time skip most) word reads = tt
cell_wants_memory Primitive word reads = tt
cell_wants_memory Dataset word reads = tt
cell_wants_memory Orbits word reads = tt
cell_wants_memory Hall word reads = absurd reads
cell_wants_memory Identify word reads = tt
cell_wants_memory Standard word reads = tt
cell_wants_memory Compare word reads = tt
cell_wants_memory Moments word reads = tt
cell_wants_memory (Fill f) word reads = tt
cell_wants_memory (Selfrun seed) word reads = tt

-- ---- answers

-- a command on the cell of the input
pub told_on_input : (ws : List (List ℕ)) (s : Streams) (request : Command) (cell : Structure) (status : Status) → command ws ≡ Ok request → ReadsCellAlone request → SpellsInput s.input s.input_after cell →
    (answer : Answer) → IsAnswer request cell answer → IsTold s.out_highest s.output s.output_after answer status → Outcome ws s status
told_on_input ws s request cell status asked reads accepted (answers.Report report) is told =
    written_outcome ws s request report.kept true report.text (Done report.kept) status asked
    (answers_on_input request (argument ws) s report.kept report.text reads (record { cell = cell; accepted = accepted; is_report = is })) (λ h. h) told
told_on_input ws s request cell status asked reads accepted (answers.NoMatch q text) is told = absurd is
told_on_input ws s request cell status asked reads accepted (answers.Different q q' text) is told = absurd is
told_on_input ws s request cell status asked reads accepted (answers.SymbolRefused fault) is told = absurd is
told_on_input ws s request cell status asked reads accepted answers.NoSuchAtom is told = absurd is
told_on_input ws s request cell status asked reads accepted (answers.NotAllowed q) is told = absurd is
told_on_input ws s request cell status asked reads accepted (answers.TooWide q) is told = absurd is

-- a command on it and a table
pub told_on_table : (ws : List (List ℕ)) (s : Streams) (request : Command) (cell : Structure) (table : List Row) (status : Status) → command ws ≡ Ok request → ReadsTable request → HasTable (argument ws) s cell table →
    (answer : Answer) → IsTableAnswer request cell table answer → IsTold s.out_highest s.output s.output_after answer status → Outcome ws s status
told_on_table ws s request cell table status asked reads there (answers.Report report) is told =
    written_outcome ws s request report.kept true report.text (Done report.kept) status asked
    (answers_on_table request (argument ws) s report.kept true report.text reads (record { cell = cell; table = table; there = there; is_report = is })) (λ h. h) told
told_on_table ws s request cell table status asked reads there (answers.NoMatch q text) is told =
    written_outcome ws s request (Back q) false text (NoMatch q) status asked
    (answers_on_table request (argument ws) s (Back q) false text reads (record { cell = cell; table = table; there = there; is_report = is })) (λ h. h) told
told_on_table ws s request cell table status asked reads there (answers.Different q q' text) is told = absurd is
told_on_table ws s request cell table status asked reads there (answers.SymbolRefused fault) is told = absurd is
told_on_table ws s request cell table status asked reads there answers.NoSuchAtom is told = absurd is
told_on_table ws s request cell table status asked reads there (answers.NotAllowed q) is told = absurd is
told_on_table ws s request cell table status asked reads there (answers.TooWide q) is told =
    subst (λ (u : Status). Outcome ws s u) (sym told) (record { request = request; asked = asked; cell = cell; table = table; there = there; refused = is })

-- `compare`
pub told_on_other : (ws : List (List ℕ)) (s : Streams) (cell other : Structure) (status : Status) → command ws ≡ Ok Compare → SpellsInput s.input s.input_after cell → IsCellOf s.shelf s.shelf_after (argument ws) other →
    (answer : Answer) → IsCompareAnswer cell other answer → IsTold s.out_highest s.output s.output_after answer status → Outcome ws s status
told_on_other ws s cell other status asked accepted o (answers.Report report) is told =
    written_outcome ws s Compare report.kept true report.text (Done report.kept) status asked
    (record { cell = cell; accepted = accepted; text = o.text; read = o.read; other = other; spelled = o.spelled; is_report = is }) (λ h. h) told
told_on_other ws s cell other status asked accepted o (answers.NoMatch q text) is told = absurd is
told_on_other ws s cell other status asked accepted o (answers.Different q q' text) is told =
    written_outcome ws s Compare (Two q q') false text (Different q q') status asked
    (record { cell = cell; accepted = accepted; text = o.text; read = o.read; other = other; spelled = o.spelled; is_report = is }) (λ h. h) told
told_on_other ws s cell other status asked accepted o (answers.SymbolRefused fault) is told = absurd is
told_on_other ws s cell other status asked accepted o answers.NoSuchAtom is told = absurd is
told_on_other ws s cell other status asked accepted o (answers.NotAllowed q) is told = absurd is
told_on_other ws s cell other status asked accepted o (answers.TooWide q) is told = absurd is

-- `fill`
pub told_on_moment : (ws : List (List ℕ)) (s : Streams) (f : Filling) (cell : Structure) (status : Status) → command ws ≡ Ok (Fill f) → SpellsInput s.input s.input_after cell →
    (answer : Answer) → IsFillAnswer cell f answer → IsTold s.out_highest s.output s.output_after answer status → Outcome ws s status
told_on_moment ws s f cell status asked accepted (answers.Report report) is told =
    written_outcome ws s (Fill f) report.kept true report.text (Done report.kept) status asked
    (refl, record { cell = cell; accepted = accepted; is_report = is }) (λ h. h) told
told_on_moment ws s f cell status asked accepted (answers.NoMatch q text) is told = absurd is
told_on_moment ws s f cell status asked accepted (answers.Different q q' text) is told = absurd is
told_on_moment ws s f cell status asked accepted (answers.SymbolRefused fault) is told = absurd is
told_on_moment ws s f cell status asked accepted answers.NoSuchAtom is told = subst (λ (u : Status). Outcome ws s u) (sym told) (record { filling = f; asked = asked; cell = cell; accepted = accepted; says = is })
told_on_moment ws s f cell status asked accepted (answers.NotAllowed q) is told = subst (λ (u : Status). Outcome ws s u) (sym told) (record { filling = f; asked = asked; cell = cell; accepted = accepted; says = is })
told_on_moment ws s f cell status asked accepted (answers.TooWide q) is told = absurd is

-- `hall`
pub told_on_word : (ws : List (List ℕ)) (s : Streams) (status : Status) → command ws ≡ Ok Hall → LeavesInput s →
    (answer : Answer) → IsHallAnswer (argument ws) answer → IsTold s.out_highest s.output s.output_after answer status → Outcome ws s status
told_on_word ws s status asked left (answers.Report report) is told =
    written_outcome ws s Hall report.kept true report.text (Done report.kept) status asked (refl, left, is) (λ h. h) told
told_on_word ws s status asked left (answers.NoMatch q text) is told = absurd is
told_on_word ws s status asked left (answers.Different q q' text) is told = absurd is
told_on_word ws s status asked left (answers.SymbolRefused fault) is told = subst (λ (u : Status). Outcome ws s u) (sym told) (asked, is)
told_on_word ws s status asked left answers.NoSuchAtom is told = absurd is
told_on_word ws s status asked left (answers.NotAllowed q) is told = absurd is
told_on_word ws s status asked left (answers.TooWide q) is told = absurd is

-- `selfrun`
pub told_on_seed : (ws : List (List ℕ)) (s : Streams) (seed : ℕ) (status : Status) → command ws ≡ Ok (Selfrun seed) → LeavesInput s →
    (answer : Answer) → IsSeedAnswer seed answer → IsTold s.out_highest s.output s.output_after answer status → Outcome ws s status
told_on_seed ws s seed status asked left (answers.Report report) is told =
    written_outcome ws s (Selfrun seed) report.kept true report.text (Done report.kept) status asked (refl, left, is) (λ h. h) told
told_on_seed ws s seed status asked left (answers.NoMatch q text) is told = absurd is
told_on_seed ws s seed status asked left (answers.Different q q' text) is told = absurd is
told_on_seed ws s seed status asked left (answers.SymbolRefused fault) is told = absurd is
told_on_seed ws s seed status asked left answers.NoSuchAtom is told = absurd is
told_on_seed ws s seed status asked left (answers.NotAllowed q) is told = absurd is
told_on_seed ws s seed status asked left (answers.TooWide q) is told = absurd is

-- ---- refusals

-- an input that gives no cell
pub refused_outcome : (ws : List (List ℕ)) (s : Streams) (request : Command) (status : Status) → command ws ≡ Ok request → ReadsCell request → RefusesInput s.in_highest s.input s.input_after status → Outcome ws s status
refused_outcome ws s request (Done basis) asked reads r = absurd r
refused_outcome ws s request (NoMatch q) asked reads r = absurd r
refused_outcome ws s request (Different q q') asked reads r = absurd r
refused_outcome ws s request (NotAllowed q) asked reads r = absurd r
refused_outcome ws s request (WriteFault written basis) asked reads r = absurd r
refused_outcome ws s request (Usage fault) asked reads r = absurd r
refused_outcome ws s request CellTooLong asked reads r = (record { request = request; asked = asked; reads = reads }, r)
refused_outcome ws s request (CellRefused line fault) asked reads r = (record { request = request; asked = asked; reads = reads }, r)
refused_outcome ws s request NoSuchAtom asked reads r = absurd r
refused_outcome ws s request OtherTooLong asked reads r = absurd r
refused_outcome ws s request (OtherRefused line fault) asked reads r = absurd r
refused_outcome ws s request (SymbolRefused fault) asked reads r = absurd r
refused_outcome ws s request (TableRefused row fault) asked reads r = absurd r
refused_outcome ws s request TableTooLong asked reads r = absurd r
refused_outcome ws s request ReadFault asked reads r = inl (record { request = request; asked = asked; reads = reads }, r)
refused_outcome ws s request Memory asked reads r = record { request = request; asked = asked; may = cell_wants_memory request (argument ws) reads }
refused_outcome ws s request (TooWide q) asked reads r = absurd r

-- a table that can't be had
pub table_refused_outcome : (ws : List (List ℕ)) (s : Streams) (status : Status) → IsTableWanted ws s.input s.input_after → RefusesTable s.shelf_highest s.shelf s.shelf_after (argument ws) status → Outcome ws s status
table_refused_outcome ws s (Done basis) wanted r = absurd r
table_refused_outcome ws s (NoMatch q) wanted r = absurd r
table_refused_outcome ws s (Different q q') wanted r = absurd r
table_refused_outcome ws s (NotAllowed q) wanted r = absurd r
table_refused_outcome ws s (WriteFault written basis) wanted r = absurd r
table_refused_outcome ws s (Usage fault) wanted r = absurd r
table_refused_outcome ws s CellTooLong wanted r = absurd r
table_refused_outcome ws s (CellRefused line fault) wanted r = absurd r
table_refused_outcome ws s NoSuchAtom wanted r = absurd r
table_refused_outcome ws s OtherTooLong wanted r = absurd r
table_refused_outcome ws s (OtherRefused line fault) wanted r = absurd r
table_refused_outcome ws s (SymbolRefused fault) wanted r = absurd r
table_refused_outcome ws s (TableRefused row fault) wanted r = (wanted, r)
table_refused_outcome ws s TableTooLong wanted r = (wanted, r)
table_refused_outcome ws s ReadFault wanted r = inr (inl wanted, r)
table_refused_outcome ws s Memory wanted r = record { request = wanted.request; asked = wanted.asked; may = cell_wants_memory wanted.request (argument ws) (table_reads_cell wanted.request wanted.reads) }
table_refused_outcome ws s (TooWide q) wanted r = absurd r

-- another cell that can't be had
pub other_refused_outcome : (ws : List (List ℕ)) (s : Streams) (status : Status) → IsOtherWanted ws s.input s.input_after → RefusesOther s.shelf_highest s.shelf s.shelf_after (argument ws) status → Outcome ws s status
other_refused_outcome ws s (Done basis) wanted r = absurd r
other_refused_outcome ws s (NoMatch q) wanted r = absurd r
other_refused_outcome ws s (Different q q') wanted r = absurd r
other_refused_outcome ws s (NotAllowed q) wanted r = absurd r
other_refused_outcome ws s (WriteFault written basis) wanted r = absurd r
other_refused_outcome ws s (Usage fault) wanted r = absurd r
other_refused_outcome ws s CellTooLong wanted r = absurd r
other_refused_outcome ws s (CellRefused line fault) wanted r = absurd r
other_refused_outcome ws s NoSuchAtom wanted r = absurd r
other_refused_outcome ws s OtherTooLong wanted r = (wanted, r)
other_refused_outcome ws s (OtherRefused line fault) wanted r = (wanted, r)
other_refused_outcome ws s (SymbolRefused fault) wanted r = absurd r
other_refused_outcome ws s (TableRefused row fault) wanted r = absurd r
other_refused_outcome ws s TableTooLong wanted r = absurd r
other_refused_outcome ws s ReadFault wanted r = inr (inr wanted, r)
other_refused_outcome ws s Memory wanted r = record { request = Compare; asked = wanted.asked; may = tt }
other_refused_outcome ws s (TooWide q) wanted r = absurd r

-- ---- what is taken, and what is asked for

-- a table has one limit
pub table_limit : (request : Command) → ReadsTable request → 1048577 ≡ suc (limit_of request)
table_limit (Symmetry time skip most) reads = absurd reads
table_limit Primitive reads = absurd reads
table_limit Dataset reads = absurd reads
table_limit Orbits reads = absurd reads
table_limit Hall reads = absurd reads
table_limit Identify reads = refl
table_limit Standard reads = refl
table_limit Compare reads = absurd reads
table_limit Moments reads = absurd reads
table_limit (Fill f) reads = absurd reads
table_limit (Selfrun seed) reads = absurd reads

-- the file of the second word
pub file_taken : {A : Type 0} (ws : List (List ℕ)) (request : Command) (name : List ℕ) (most : ℕ) (before after : ShelfState) → command ws ≡ Ok request → most ≡ suc (limit_of request) → name ≡ argument ws → A ⊎ IsTakenUpTo most name before after → A ⊎ TakesFile ws before after
file_taken ws request name most before after asked is named (inl a) = inl a
file_taken ws request name most before after asked is named (inr t) =
    let here : IsTakenUpTo (suc (limit_of request)) (argument ws) before after =
    subst (λ (n : ℕ). IsTakenUpTo n (argument ws) before after) is (subst (λ (v : List ℕ). IsTakenUpTo most v before after) named t) in
    inr (record { request = request; asked = asked; few = here.few; stops = here.stops; files = here.files })

-- the moment of `fill`
pub moment_small : (r : Result Command UsageFault) (request : Command) (f : Filling) → r ≡ Ok request → request ≡ Fill f → IfOk r HasSmallMoment → IsSmall f
moment_small r request f is same small = subst HasSmallMoment same (subst (λ (t : Result Command UsageFault). IfOk t HasSmallMoment) is small)
