-- Which report a command that reads a cell and a table asks for.
--   IsTableReport command c rows kept matched bytes   the report on the crystal c and the rows of a table, and the basis it
--                                                     speaks of; whether a row is matched is told besides
--   IsRefusedTable command c rows q                   there is none, though a row is matched
-- Our own.
use Rattle.std.specs.Prelude.{ℕ, Bool, List}
use Rattle.crystal_spec.specs.Matrices.{Matrix}
use Rattle.crystal_spec.specs.Crystals.{Structure}
use Rattle.hall_text.specs.declared.rows.Row.{Row}
use Rattle.command_words.specs.declared.command.Command.{Command}
use Rattle.command_words.specs.declared.command.Command.TheVariants.{Symmetry, Primitive, Dataset, Orbits, Hall, Identify, Standard, Compare, Moments, Fill, Selfrun}
use Rattle.report_basis.specs.declared.Kept.{Kept}
use Rattle.answers.specs.IdentifyReports.{IsIdentifyReport}
use Rattle.answers.specs.StandardReports.{IsStandardReport, IsTooWide}

-- the other commands read no table
abbrev pub IsTableReport : Command → Structure → List Row → Kept → Bool → List ℕ → Type 0
IsTableReport (Symmetry time skip most) c rows kept matched bytes = ⊥
IsTableReport Primitive c rows kept matched bytes = ⊥
IsTableReport Dataset c rows kept matched bytes = ⊥
IsTableReport Orbits c rows kept matched bytes = ⊥
IsTableReport Hall c rows kept matched bytes = ⊥
IsTableReport Identify c rows kept matched bytes = IsIdentifyReport c rows kept matched bytes
IsTableReport Standard c rows kept matched bytes = IsStandardReport c rows kept matched bytes
IsTableReport Compare c rows kept matched bytes = ⊥
IsTableReport Moments c rows kept matched bytes = ⊥
IsTableReport (Fill f) c rows kept matched bytes = ⊥
IsTableReport (Selfrun seed) c rows kept matched bytes = ⊥

-- `identify` has a report on every crystal
abbrev pub IsRefusedTable : Command → Structure → List Row → Matrix → Type 0
IsRefusedTable (Symmetry time skip most) c rows q = ⊥
IsRefusedTable Primitive c rows q = ⊥
IsRefusedTable Dataset c rows q = ⊥
IsRefusedTable Orbits c rows q = ⊥
IsRefusedTable Hall c rows q = ⊥
IsRefusedTable Identify c rows q = ⊥
IsRefusedTable Standard c rows q = IsTooWide c rows q
IsRefusedTable Compare c rows q = ⊥
IsRefusedTable Moments c rows q = ⊥
IsRefusedTable (Fill f) c rows q = ⊥
IsRefusedTable (Selfrun seed) c rows q = ⊥
