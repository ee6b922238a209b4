-- What each status says leaves only the whole report, that there is none for what was asked, or want of memory, where nothing
-- stands in the way of a report.
use Rattle.std.proofs.Common.{◌≡◌, sym, ap, subst, ◌∙◌, ◌⊎◌, inl, inr, ℕ, ◌+◌, ◌≤◌, nat_lt, true, List, [], ◌∷◌, ◌++◌, length, Some, None, append-nil, arith}
use Rattle.std.proofs.lemmas.List.{length-append}
use Rattle.std.specs.declared.option.Option.{Option}
use Rattle.std.specs.declared.result.Result.TheVariants.{Ok, Err}
use Rattle.std.specs.Io.KnownBytes.{Consumes, IsAtEnd}
use Rattle.cell_text.specs.Rules.{cell_fault}
use Rattle.run_status.specs.declared.status.Status.{Status}
use Rattle.run_status.specs.declared.status.Status.TheVariants.{Done, NoMatch, Different, NotAllowed, Usage, CellTooLong, CellRefused, NoSuchAtom, OtherTooLong, OtherRefused, SymbolRefused, TableRefused, TableTooLong, ReadFault, WriteFault, Memory, TooWide}
use Rattle.hall_symbol.specs.Symbols.{HallSymbol, generators}
use Rattle.hall_symbol.specs.Spelling.{symbol_fault}
use Rattle.hall_symbol.specs.Cuts.{behind_first_word}
use Rattle.hall_text.specs.Products.{TooMany}
use Rattle.hall_text.specs.Tables.{rows, AreRows, IsRow, IsRowFault, IsFirstFault}
use Rattle.hall_text.specs.declared.limits.TheConstants.{MOST_ROWS}
use Rattle.io_edge.specs.Causes.{Rose}
use Rattle.io_edge.specs.Shelves.{IsMissing, Leaves}
use Rattle.io_edge.specs.States.{Files}
use Rattle.hall_text.specs.declared.fault.RowFault.{RowFault}
use Rattle.hall_text.specs.declared.fault.RowFault.TheVariants as faults
use Rattle.answers.specs.HallReports.{IsSymbolFault}
use Rattle.command_words.specs.declared.command.Command.{Command}
use Rattle.command_words.specs.declared.command.Command.TheVariants.{Symmetry, Primitive, Dataset, Orbits, Hall, Identify, Standard, Compare, Moments, Fill, Selfrun}
use Rattle.command_words.specs.Commands.{command, argument, ReadsCell, ReadsTable}
use Rattle.command_runs.specs.Outcomes.{Streams, Outcome, IsAskedOfCell, IsTableWanted, IsOtherWanted, FailsToReadFile}
use Rattle.run_status.specs.StatusKinds.{kind_of, IsAnswered}
use Rattle.magsym_run.specs.Completeness.{IsAnswerable, IsThere, SpellsCell, IsKept, HasTable, HasOther, HasGroup}

-- what was read to the end is all of a known text
read_is_text : (left after : Option (List ℕ)) (text read : List ℕ) → left ≡ Some text → Consumes left after read → IsAtEnd after → text ≡ read
read_is_text None after text read e p q = absurd cc
read_is_text (Some xs) None text read e p q = absurd p
read_is_text (Some xs) (Some ys) text read e p q =
    let same : text ≡ xs = cc in same ∙ p ∙ ap (λ l. read ++ l) q ∙ append-nil read

-- no more than all of a known text is taken
taken_within : (left after : Option (List ℕ)) (text taken : List ℕ) → left ≡ Some text → Consumes left after taken → length taken ≤ length text
taken_within None after text taken e p = absurd cc
taken_within (Some xs) None text taken e p = absurd p
taken_within (Some xs) (Some ys) text taken e p =
    let same : text ≡ xs = cc in
    let count : length text ≡ length taken + length ys = ap length (same ∙ p) ∙ length-append taken ys in omega (arith, count)

-- the words ask for one command
asked_once : (ws : List (List ℕ)) (a b : Command) → command ws ≡ Ok a → command ws ≡ Ok b → a ≡ b
asked_once ws a b p q = cc

-- a command that reads a cell works on the cell of the input
spells_cell : (request : Command) (word : List ℕ) (s : Streams) → ReadsCell request → IsThere request word s → SpellsCell s
spells_cell (Symmetry time skip most) word s reads there = there
spells_cell Primitive word s reads there = there
spells_cell Dataset word s reads there = there
spells_cell Orbits word s reads there = there
spells_cell Hall word s reads there = absurd reads
spells_cell Identify word s reads there = there.0
spells_cell Standard word s reads there = there.0
spells_cell Compare word s reads there = there.0
spells_cell Moments word s reads there = there
spells_cell (Fill f) word s reads there = there
spells_cell (Selfrun seed) word s reads there = absurd reads

-- where the words ask for a command that reads a cell, the input spells one
cell_there : (ws : List (List ℕ)) (s : Streams) → IsAskedOfCell ws → IsAnswerable ws s → SpellsCell s
cell_there ws s asked a =
    let same = asked_once ws asked.request a.request asked.asked a.asked in
    spells_cell a.request (argument ws) s (subst ReadsCell same asked.reads) a.there

-- a symbol of a group has no fault
group_faultless : (word : List ℕ) (fault : RowFault) → HasGroup word → IsSymbolFault word fault → ⊥
group_faultless word (faults.Symbol fault) g f =
    let none : symbol_fault word ≡ None = g.spelled.faultless in
    let some : symbol_fault word ≡ Some fault = f in absurd cc
group_faultless word faults.TooManyMatrices g f =
    let same : f.symbol ≡ g.symbol = f.spelled.is ∙ sym g.spelled.is in
    g.few (subst (λ (t : HallSymbol). TooMany (generators t)) same f.many)
group_faultless word faults.TooManyRows g f = f
group_faultless word faults.BadRow g f = f

-- a command that reads a table works on that of its word
has_table : (request : Command) (word : List ℕ) (s : Streams) → ReadsTable request → IsThere request word s → HasTable word s
has_table (Symmetry time skip most) word s reads there = absurd reads
has_table Primitive word s reads there = absurd reads
has_table Dataset word s reads there = absurd reads
has_table Orbits word s reads there = absurd reads
has_table Hall word s reads there = absurd reads
has_table Identify word s reads there = there.1
has_table Standard word s reads there = there.1
has_table Compare word s reads there = absurd reads
has_table Moments word s reads there = absurd reads
has_table (Fill f) word s reads there = absurd reads
has_table (Selfrun seed) word s reads there = absurd reads

-- where a table is wanted there is one
table_there : (ws : List (List ℕ)) (s : Streams) → IsTableWanted ws s.input s.input_after → IsAnswerable ws s → HasTable (argument ws) s
table_there ws s wanted a =
    let same = asked_once ws wanted.request a.request wanted.asked a.asked in
    has_table a.request (argument ws) s (subst ReadsTable same wanted.reads) a.there

-- where another cell is wanted there is one
other_there : (ws : List (List ℕ)) (s : Streams) → IsOtherWanted ws s.input s.input_after → IsAnswerable ws s → HasOther (argument ws) s
other_there ws s wanted a =
    let same = asked_once ws Compare a.request wanted.asked a.asked in
    let there : IsThere Compare (argument ws) s = subst (λ (c : Command). IsThere c (argument ws) s) (sym same) a.there in there.1

-- a file that was read to its end is all of a known one
file_is_text : (told : Option Files) (left : Option (List ℕ)) (files : Files) (name text read : List ℕ) → told ≡ Some files → files name ≡ Some text → Leaves told name read left → IsAtEnd left → text ≡ read
file_is_text None left files name text read e f p q = absurd cc
file_is_text (Some fs) None files name text read e f p q = absurd p
file_is_text (Some fs) (Some ys) files name text read e f p q =
    let same : fs ≡ files = cc in
    let known : fs name ≡ Some text = ap (λ (g : Files). g name) same ∙ f in
    let both : Some text ≡ Some (read ++ ys) = sym known ∙ p in
    let is : text ≡ read ++ ys = cc in is ∙ ap (λ l. read ++ l) q ∙ append-nil read

-- no more than all of a known file is taken
file_within : (told : Option Files) (left : Option (List ℕ)) (files : Files) (name text taken : List ℕ) → told ≡ Some files → files name ≡ Some text → Leaves told name taken left → length taken ≤ length text
file_within None left files name text taken e f p = absurd cc
file_within (Some fs) None files name text taken e f p = absurd p
file_within (Some fs) (Some ys) files name text taken e f p =
    let same : fs ≡ files = cc in
    let known : fs name ≡ Some text = ap (λ (g : Files). g name) same ∙ f in
    let both : Some text ≡ Some (taken ++ ys) = sym known ∙ p in
    let is : text ≡ taken ++ ys = cc in
    let count : length text ≡ length taken + length ys = ap length is ∙ length-append taken ys in omega (arith, count)

-- a file that is there isn't missing
missing_not : (told : Option Files) (files : Files) (name text : List ℕ) → told ≡ Some files → files name ≡ Some text → IsMissing told name → ⊥
missing_not None files name text e f m = m
missing_not (Some fs) files name text e f m =
    let same : fs ≡ files = cc in
    let known : fs name ≡ Some text = ap (λ (g : Files). g name) same ∙ f in
    let none : fs name ≡ None = m in absurd cc

-- a store that works and has the file doesn't fail to give it
file_had : (limit : ℕ) (name text : List ℕ) (s : Streams) → IsKept limit name text s → FailsToReadFile s.shelf_highest s.shelf s.shelf_after name → ⊥
file_had limit name text s t r = by r.cause
  where
    by : (Rose s.shelf_highest s.shelf.picked.faults s.shelf_after.picked.faults ⊎ IsMissing s.shelf.files name) → ⊥
    by (inl rose) = t.shelf_works rose
    by (inr missing) = missing_not s.shelf.files t.files name text t.are_files t.is_file missing

-- a row without a fault has none
row_faultless : (n : ℕ) (line : List ℕ) (fault : RowFault) → IsRow n line → IsRowFault n line fault → ⊥
row_faultless n line faults.TooManyRows r f = let a = r.within in let b : nat_lt MOST_ROWS n ≡ true = f in absurd cc
row_faultless n line faults.BadRow r f = let a = r.form in let b = f.1 in absurd cc
row_faultless n line (faults.Symbol fault) r f =
    let a : symbol_fault (behind_first_word line) ≡ None = r.faultless in
    let b : symbol_fault (behind_first_word line) ≡ Some fault = f.2 in absurd cc
row_faultless n line faults.TooManyMatrices r f = r.few f.3

no_first_fault : (n : ℕ) (lines : List (List ℕ)) (i : ℕ) (fault : RowFault) → AreRows n lines → IsFirstFault n lines i fault → ⊥
no_first_fault n [] i fault r f = f
no_first_fault n (line ∷ later) i fault r (inl f) = row_faultless (n + 1) line fault r.0 f.0
no_first_fault n (line ∷ later) i fault r (inr f) = no_first_fault (n + 1) later i fault r.1 f.1

-- by cases on the status
pub complete_of_outcome : (ws : List (List ℕ)) (s : Streams) (status : Status) → Outcome ws s status → IsAnswerable ws s → IsAnswered (kind_of status)
complete_of_outcome ws s (Done kept) o a = tt
complete_of_outcome ws s (NoMatch q) o a = tt
complete_of_outcome ws s (Different q q') o a = tt
complete_of_outcome ws s (NotAllowed q) o a = tt
complete_of_outcome ws s (TooWide q) o a = tt
complete_of_outcome ws s NoSuchAtom o a = tt
complete_of_outcome ws s Memory o a = tt
complete_of_outcome ws s (Usage fault) o a =
    let asked : command ws ≡ Ok a.request = a.asked in
    let faulty : command ws ≡ Err fault = o in absurd cc
complete_of_outcome ws s (WriteFault written kept) o a = absurd (a.output_works o.cause)
complete_of_outcome ws s ReadFault (inl o) a = absurd ((cell_there ws s o.0 a).input_works o.1.cause)
complete_of_outcome ws s ReadFault (inr (inl wanted, r)) a =
    let t = table_there ws s wanted a in absurd (file_had 1048576 (argument ws) t.text s t.kept r)
complete_of_outcome ws s ReadFault (inr (inr wanted, r)) a =
    let t = other_there ws s wanted a in absurd (file_had 262144 (argument ws) t.text s t.kept r)
complete_of_outcome ws s (CellRefused line fault) o a =
    let c = cell_there ws s o.0 a in
    let same = read_is_text s.input.left s.input_after.left c.text o.1.text c.is_input o.1.read.taken o.1.read.none_left in
    let none : cell_fault o.1.text ≡ None = subst (λ (t : List ℕ). cell_fault t ≡ None) same c.spelled.faultless in
    let some : cell_fault o.1.text ≡ Some (line, fault) = o.1.first in absurd cc
complete_of_outcome ws s CellTooLong o a =
    let c = cell_there ws s o.0 a in
    let within = taken_within s.input.left s.input_after.left c.text o.1.taken c.is_input o.1.consumed in
    absurd (omega (arith, within, o.1.count, c.short))
complete_of_outcome ws s (TableRefused row fault) o a =
    let t = table_there ws s o.0 a in
    let same = file_is_text s.shelf.files s.shelf_after.picked.left t.kept.files (argument ws) t.text o.1.text t.kept.are_files t.kept.is_file o.1.read.taken o.1.read.none_left in
    let faultless : AreRows 0 (rows o.1.text) = subst (λ (text : List ℕ). AreRows 0 (rows text)) same t.spelled.faultless in
    absurd (no_first_fault 0 (rows o.1.text) row fault faultless o.1.first)
complete_of_outcome ws s TableTooLong o a =
    let t = table_there ws s o.0 a in
    let within = file_within s.shelf.files s.shelf_after.picked.left t.kept.files (argument ws) t.text o.1.taken t.kept.are_files t.kept.is_file o.1.leaves in
    absurd (omega (arith, within, o.1.count, t.kept.short))
complete_of_outcome ws s (OtherRefused line fault) o a =
    let t = other_there ws s o.0 a in
    let same = file_is_text s.shelf.files s.shelf_after.picked.left t.kept.files (argument ws) t.text o.1.text t.kept.are_files t.kept.is_file o.1.read.taken o.1.read.none_left in
    let none : cell_fault o.1.text ≡ None = subst (λ (text : List ℕ). cell_fault text ≡ None) same t.spelled.faultless in
    let some : cell_fault o.1.text ≡ Some (line, fault) = o.1.first in absurd cc
complete_of_outcome ws s OtherTooLong o a =
    let t = other_there ws s o.0 a in
    let within = file_within s.shelf.files s.shelf_after.picked.left t.kept.files (argument ws) t.text o.1.taken t.kept.are_files t.kept.is_file o.1.leaves in
    absurd (omega (arith, within, o.1.count, t.kept.short))
complete_of_outcome ws s (SymbolRefused fault) o a =
    let same = asked_once ws Hall a.request o.0 a.asked in
    let there : IsThere Hall (argument ws) s = subst (λ (c : Command). IsThere c (argument ws) s) (sym same) a.there in
    absurd (group_faultless (argument ws) fault there o.1)
