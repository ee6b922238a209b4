-- The text of a filled cell. It is a cell file whose second line is the comment `# back` with the nine entries of Q = P⁻¹ row
-- by row, where P has the basis vectors of the filled cell as columns. Then come the lines of the cell file of the filled cell
-- behind its first. Each line has LF at its end, and single spaces.
--   filled_text back c   the text of a filled cell c, with this Q
-- The format is our own.
use Rattle.std.specs.Prelude.{ℕ, List, ◌∷◌, ◌++◌, codes}
use Rattle.crystal_spec.specs.Matrices.{Matrix}
use Rattle.crystal_spec.specs.Crystals.{Structure}
use Rattle.operation_text.specs.EntryText.{entries_text}
use Rattle.cell_print.specs.CellFileText.{heading_text, cell_lines_text}

-- Q as a comment, between the first line of the cell file of the cell and the others
abbrev pub filled_text : Matrix → Structure → List ℕ
filled_text back c = heading_text c.kind ++ codes "# back" ++ entries_text back ++ 10 ∷ cell_lines_text c
