-- Which report a command that reads a cell, and nothing else, asks for.
--   IsReport command c kept bytes   the report that the command asks for on the crystal c, and the basis it speaks of
--   HasOneReport c                  for each command and basis there is one report on c
-- Our own.
use Rattle.std.specs.Prelude.{◌≡◌, ℕ, List}
use Rattle.crystal_spec.specs.Crystals.{Structure}
use Rattle.command_words.specs.declared.command.Command.{Command}
use Rattle.command_words.specs.declared.command.Command.TheVariants.{Symmetry, Primitive, Dataset, Orbits, Hall, Identify, Standard, Compare, Moments, Fill, Selfrun}
use Rattle.report_basis.specs.declared.Kept.{Kept}
use Rattle.report_basis.specs.declared.Kept.TheVariants.{NoBase, Back, Two}
use Rattle.answers.specs.SymmetryReports.{SymmetryReport}
use Rattle.answers.specs.PrimitiveReports.{IsPrimitiveReport}
use Rattle.answers.specs.DatasetReports.{IsDatasetReport}
use Rattle.answers.specs.OrbitReports.{IsOrbitReport}
use Rattle.answers.specs.MomentReports.{IsMomentsReport}

-- the report that the command asks for, which speaks of this basis; `hall` and `selfrun` read no cell, `identify`, `standard`
-- and `compare` read a file too, and `fill` has refusals of its own
abbrev pub IsReport : Command → Structure → Kept → List ℕ → Type 0
IsReport (Symmetry time skip most) c NoBase bytes = SymmetryReport c time skip most bytes
IsReport (Symmetry time skip most) c (Back q) bytes = ⊥
IsReport (Symmetry time skip most) c (Two q q') bytes = ⊥
IsReport Primitive c NoBase bytes = ⊥
IsReport Primitive c (Back q) bytes = IsPrimitiveReport c q bytes
IsReport Primitive c (Two q q') bytes = ⊥
IsReport Dataset c NoBase bytes = ⊥
IsReport Dataset c (Back q) bytes = IsDatasetReport c q bytes
IsReport Dataset c (Two q q') bytes = ⊥
IsReport Orbits c NoBase bytes = ⊥
IsReport Orbits c (Back q) bytes = IsOrbitReport c q bytes
IsReport Orbits c (Two q q') bytes = ⊥
IsReport Hall c kept bytes = ⊥
IsReport Identify c kept bytes = ⊥
IsReport Standard c kept bytes = ⊥
IsReport Compare c kept bytes = ⊥
IsReport Moments c NoBase bytes = ⊥
IsReport Moments c (Back q) bytes = IsMomentsReport c q bytes
IsReport Moments c (Two q q') bytes = ⊥
IsReport (Fill f) c kept bytes = ⊥
IsReport (Selfrun seed) c kept bytes = ⊥

-- reports of one command that speak of one basis are one
abbrev pub HasOneReport : Structure → Type 0
HasOneReport c = (request : Command) (kept : Kept) (bytes others : List ℕ) → IsReport request c kept bytes → IsReport request c kept others → bytes ≡ others
