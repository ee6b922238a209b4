-- The text of a primitive cell. It is a cell file whose second and third line are comments: `# index` tells how many pure
-- translations the cell has that it was made of, and `# back` the nine entries of Q = P⁻¹ row by row, where P has the
-- primitive basis vectors as columns. The other lines are those of the cell file of the primitive cell, in order. Each line
-- has LF at its end, and single spaces.
--   cell_in_basis_text index back c    the text of a cell c in another basis, with this index and this Q
-- The format is our own.
use Rattle.std.specs.Prelude.{ℕ, List, ◌++◌, codes}
use Rattle.std.specs.Fmt.{decimal}
use Rattle.crystal_spec.specs.Matrices.{Matrix}
use Rattle.crystal_spec.specs.Crystals.{Structure}
use Rattle.operation_text.specs.EntryText.{entries_text}
use Rattle.cell_print.specs.CellFileText.{heading_text, cell_lines_text}

-- the index and Q as comments, between the first line of the cell file of the cell and the others
unfoldable pub cell_in_basis_text : ℕ → Matrix → Structure → List ℕ
cell_in_basis_text index back c =
    heading_text c.kind ++ codes "# index " ++ decimal index ++ codes "\n# back" ++ entries_text back ++ codes "\n" ++ cell_lines_text c
