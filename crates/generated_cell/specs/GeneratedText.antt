-- The cell file that a seed generates. The lines are `magcell 1`, a metric line, one line an atom, and `end`, each with LF at
-- its end. The atoms stand at the nodes of a grid of 8 by 8 by 8, in order.
--   Node, node i j k       a node of the grid: coordinates in eighths
--   row_of, plane_of, nodes    the nodes with the same i and j, with the same i, and all
--   eighths i              i/8 as it stands, not in lowest terms
--   class_of v             which of the coordinates of a node are odd: 4, 2 and 1 for the first, second and third
--   moment_text d          the moment that a draw gives
--   atom_line ds v         the line of the atom at a node, where these are the draws of the classes
--   text_of ds vs          the lines of the atoms at these nodes, with LF at the end of each
--   generated_text seed    the text
-- Our own.
use Rattle.std.specs.Prelude.{ℕ, zero, suc, ◌+◌, ◌*◌, ◌%◌, List, [], ◌∷◌, ◌++◌, get_or, codes}
use Rattle.std.specs.List.{flat_map, range_with_len}
use Rattle.std.specs.Fmt.{decimal}
use Rattle.generated_cell.specs.Generator.{draws}

-- ---- the grid

pub record Node : Type 0 where
  pub i : ℕ
  pub j : ℕ
  pub k : ℕ

abbrev pub node : ℕ → ℕ → ℕ → Node
node i j k = record { i = i; j = j; k = k }

-- what each of the numbers 0 to 7 gives, in order
abbrev pub for_each : (ℕ → List Node) → List Node
for_each f = flat_map f (range_with_len 0 8)

unfoldable pub row_of : ℕ → ℕ → List Node
row_of i j = for_each (λ k. node i j k ∷ [])

unfoldable pub plane_of : ℕ → List Node
plane_of i = for_each (λ j. row_of i j)

-- i, j and k run from 0 to 7, k fastest
unfoldable pub nodes : List Node
nodes = for_each (λ i. plane_of i)

-- ---- the line of an atom

abbrev pub eighths : ℕ → List ℕ
eighths i = decimal i ++ codes "/8"

-- Atoms are of one class where their coordinates in eighths agree modulo 2. There are eight classes, 0 to 7.
abbrev pub class_of : Node → ℕ
class_of v = 4 * (v.i % 2) + 2 * (v.j % 2) + v.k % 2

-- none, one unit along the third axis, or one against it
abbrev pub moment_text : ℕ → List ℕ
moment_text zero = []
moment_text (suc zero) = codes " 0 0 1"
moment_text (suc (suc d)) = codes " 0 0 -1"

-- the draw of the class of an atom
abbrev pub draw_at : List ℕ → Node → ℕ
draw_at ds v = get_or ds (class_of v) 0

unfoldable pub atom_line : List ℕ → Node → List ℕ
atom_line ds v = codes "atom A " ++ (eighths v.i ++ 32 ∷ (eighths v.j ++ 32 ∷ (eighths v.k ++ moment_text (draw_at ds v))))

-- ---- the text

unfoldable pub text_of : List ℕ → List Node → List ℕ
text_of ds vs = flat_map (λ v. atom_line ds v ++ 10 ∷ []) vs

unfoldable pub generated_text : ℕ → List ℕ
generated_text seed = codes "magcell 1\nmetric 64 64 64 0 0 0\n" ++ (text_of (draws 8 seed) nodes ++ codes "end\n")
