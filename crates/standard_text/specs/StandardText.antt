-- The text of the standard cell of a table's row. It is a cell file with two comments behind its first line: `# row` with the
-- number of the row and its name, and `# map` with the nine entries of Q row by row and the three coordinates of the origin
-- shift p in lowest terms. Coordinates x in the printed cell are Q x + p in the primitive cell. Each line has LF at its end,
-- and single spaces.
--   row_line i name            the comment on a row, of the number i from 1 and this name
--   map_line m                 the comment on its map
--   standard_text i name m c   the whole text, where c is the standard cell
--   none_text                  the text where no row is matched
-- The format is our own.
use Rattle.std.specs.Prelude.{ℕ, List, [], ◌∷◌, ◌++◌, codes}
use Rattle.std.specs.Fmt.{decimal}
use Rattle.crystal_spec.specs.Crystals.{Structure}
use Rattle.operation_text.specs.EntryText.{entries_text}
use Rattle.group_match.specs.declared.map.Map.{Map}
use Rattle.match_text.specs.MatchText.{coordinates_text}
use Rattle.cell_print.specs.CellFileText.{heading_text, cell_lines_text}

abbrev pub row_line : ℕ → List ℕ → List ℕ
row_line i name = codes "# row " ++ decimal i ++ 32 ∷ name ++ 10 ∷ []

abbrev pub map_line : Map → List ℕ
map_line m = codes "# map" ++ entries_text m.turn ++ coordinates_text m.origin ++ 10 ∷ []

-- the row and the map, between the first line of the cell file of the cell and the others
abbrev pub standard_text : ℕ → List ℕ → Map → Structure → List ℕ
standard_text i name m c = heading_text c.kind ++ row_line i name ++ map_line m ++ cell_lines_text c

abbrev pub none_text : List ℕ
none_text = codes "none\n"
