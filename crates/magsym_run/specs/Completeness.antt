-- When a run has to write the whole report, or to tell that the crystal has none for what was asked.
--   SpellsCell s              the input spells a cell and does not fail
--   IsKept limit name text s  the store tells its files, has this one, of at most so many bytes, and does not fail
--   HasTable name s           it has a table of this name without a faulty row
--   HasOther name s           it has a cell of this name
--   HasGroup word             the word spells a Hall symbol of at most 48 matrices
--   IsThere request word s    what the command works on is there
--   IsAnswerable ws s         the words ask for a command, what it works on is there, and the output does not fail
use Rattle.std.specs.Prelude.{◌≡◌, ◌≤◌, ℕ, List, length, Some}
use Rattle.std.specs.declared.result.Result.TheVariants.{Ok}
use Rattle.io_edge.specs.Causes.{Rose}
use Rattle.io_edge.specs.States.{Files}
use Rattle.crystal_spec.specs.Crystals.{Structure}
use Rattle.cell_text.specs.CellFile.{Spells}
use Rattle.hall_symbol.specs.Symbols as hall
use Rattle.hall_symbol.specs.Spelling as spelling
use Rattle.hall_text.specs.Products.{TooMany}
use Rattle.hall_text.specs.Tables.{SpellsTable}
use Rattle.hall_text.specs.declared.rows.Row.{Row}
use Rattle.command_words.specs.declared.command.Command.{Command}
use Rattle.command_words.specs.declared.command.Command.TheVariants.{Symmetry, Primitive, Dataset, Orbits, Hall, Identify, Standard, Compare, Moments, Fill, Selfrun}
use Rattle.command_words.specs.Commands.{command, argument}
use Rattle.command_runs.specs.Outcomes.{Streams}

-- the input tells its bytes, which are at most 262,144 and spell a cell, and it did not fail
pub record SpellsCell (s : Streams) : Type 0 where
  pub text : List ℕ
  pub is_input : s.input.left ≡ Some text
  pub short : length text ≤ 262144
  pub cell : Structure
  pub spelled : Spells text cell
  pub input_works : Rose s.in_highest s.input.faults s.input_after.faults → ⊥

-- the word spells a symbol, whose products have at most 48 different matrices
pub record HasGroup (word : List ℕ) : Type 0 where
  pub symbol : hall.HallSymbol
  pub spelled : spelling.Spells word symbol
  pub few : TooMany (hall.generators symbol) → ⊥

-- the store tells its files; that of this name is this text, of at most so many bytes; and the store did not fail
pub record IsKept (limit : ℕ) (name text : List ℕ) (s : Streams) : Type 0 where
  pub files : Files
  pub are_files : s.shelf.files ≡ Some files
  pub is_file : files name ≡ Some text
  pub short : length text ≤ limit
  pub shelf_works : Rose s.shelf_highest s.shelf.picked.faults s.shelf_after.picked.faults → ⊥

-- it spells a table
pub record HasTable (name : List ℕ) (s : Streams) : Type 0 where
  pub text : List ℕ
  pub kept : IsKept 1048576 name text s
  pub table : List Row
  pub spelled : SpellsTable text table

-- it spells a cell
pub record HasOther (name : List ℕ) (s : Streams) : Type 0 where
  pub text : List ℕ
  pub kept : IsKept 262144 name text s
  pub cell : Structure
  pub spelled : Spells text cell

-- the cell of the input, and the table or the other cell; or the group of the word; a seed always generates a cell
abbrev pub IsThere : Command → List ℕ → Streams → Type 0
IsThere (Symmetry time skip most) word s = SpellsCell s
IsThere Primitive word s = SpellsCell s
IsThere Dataset word s = SpellsCell s
IsThere Orbits word s = SpellsCell s
IsThere Hall word s = HasGroup word
IsThere Identify word s = SpellsCell s × HasTable word s
IsThere Standard word s = SpellsCell s × HasTable word s
IsThere Compare word s = SpellsCell s × HasOther word s
IsThere Moments word s = SpellsCell s
IsThere (Fill f) word s = SpellsCell s
IsThere (Selfrun seed) word s = Unit {0}

pub record IsAnswerable (ws : List (List ℕ)) (s : Streams) : Type 0 where
  pub request : Command
  pub asked : command ws ≡ Ok request
  pub there : IsThere request (argument ws) s
  pub output_works : Rose s.out_highest s.output.faults s.output_after.faults → ⊥
