-- The summary of what is found of a cell.
--   line_text word n    the word, a space and the number in decimal, with LF at the end
--   summary_text        the five lines
-- The format is our own.
use Rattle.std.specs.Prelude.{ℕ, List, [], ◌∷◌, ◌++◌, codes}
use Rattle.std.specs.Fmt.{decimal}

-- a word, a space and a number in decimal
abbrev pub line_text : List ℕ → ℕ → List ℕ
line_text word n = word ++ 32 ∷ decimal n ++ 10 ∷ []

-- how many atoms a cell has, the index of its lattice in that of the primitive cell, how many symmetry operations the
-- primitive cell has, the magnetic type, and how many symmetry operations the cell has
abbrev pub summary_text : ℕ → ℕ → ℕ → ℕ → ℕ → List ℕ
summary_text atoms index order kind cell_order =
    line_text (codes "atoms") atoms
    ++ line_text (codes "index") index
    ++ line_text (codes "order") order
    ++ line_text (codes "type") kind
    ++ line_text (codes "cell_order") cell_order
