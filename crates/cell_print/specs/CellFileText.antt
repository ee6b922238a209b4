-- The cell file that is printed of a cell. The lines are `magcell 1` where moments are axial vectors, and else `magcell 2`
-- and a kind line, then the metric line, one line an atom in order, and `end`, with single spaces and LF at the end of each.
-- Each number is in lowest terms, as `p` or `p/q` with q of at least 2, behind a `-` where it is negative. The moment of a
-- vector is three numbers, that of a scalar one; a moment of 0 is left out.
--   heading_text kind      the first line, by the kind of moments
--   kind_text kind         the kind line, or nothing where moments are axial vectors
--   metric_text d g        the metric line of a metric tensor g in units of 1/d
--   position_text n p      a position in units of 1/n
--   moment_text kind k m   a moment in units of 1/k, or nothing where it is 0
--   atom_text c s          the line of an atom of the cell
--   cell_lines_text c      the lines of a cell behind the first
--   cell_file_text c       the text of a cell
-- The format is our own.
use Rattle.std.specs.Prelude.{ℕ, zero, suc, ℤ, pos, negsuc, Bool, true, false, ◌&&◌, List, [], ◌∷◌, ◌++◌, codes, get_or, unsigned_abs, if◌then◌else◌}
use Rattle.crystal_spec.specs.declared.MomentKind.{MomentKind}
use Rattle.crystal_spec.specs.Matrices.{Triple, Matrix}
use Rattle.crystal_spec.specs.Crystals.{Atom, Structure}
use Rattle.plain_text.specs.NumberText.{numbers_text}

-- the first line: version 1 is that of axial vectors
abbrev pub heading_text : MomentKind → List ℕ
heading_text kind = if kind.vector && kind.axial then codes "magcell 1\n" else codes "magcell 2\n"

-- the kind line, which axial vectors do not have
abbrev pub kind_text : MomentKind → List ℕ
kind_text kind =
    if kind.vector then (if kind.axial then [] else codes "kind vector plain\n")
    else (if kind.axial then codes "kind scalar axial\n" else codes "kind scalar plain\n")

-- the six scalar products of the axes: a·a, b·b, c·c, b·c, a·c and a·b
abbrev pub scalar_products : Matrix → List ℤ
scalar_products g = g.a11 ∷ g.a22 ∷ g.a33 ∷ g.a23 ∷ g.a13 ∷ g.a12 ∷ []

-- the metric line of a metric tensor in units of 1/d
abbrev pub metric_text : ℕ → Matrix → List ℕ
metric_text d g = codes "metric" ++ numbers_text d (scalar_products g) ++ 10 ∷ []

-- the three numbers of a column
abbrev pub coordinates : Triple → List ℤ
coordinates v = v.x ∷ v.y ∷ v.z ∷ []

-- a position in units of 1/n
abbrev pub position_text : ℕ → Triple → List ℕ
position_text n p = numbers_text n (coordinates p)

-- the integer is 0
abbrev pub is_zero : ℤ → Bool
is_zero (pos zero) = true
is_zero (pos (suc n)) = false
is_zero (negsuc n) = false

-- each component is 0
abbrev pub is_nothing : Triple → Bool
is_nothing m = is_zero m.x && is_zero m.y && is_zero m.z

-- the numbers of a moment: the three components of a vector; a scalar is one number, kept as the first component
abbrev pub moment_numbers : MomentKind → Triple → List ℤ
moment_numbers kind m = if kind.vector then coordinates m else m.x ∷ []

-- a moment in units of 1/k, or nothing where it is 0
abbrev pub moment_text : MomentKind → ℕ → Triple → List ℕ
moment_text kind k m = if is_nothing m then [] else numbers_text k (moment_numbers kind m)

-- the line of an atom: its name, its position, and its moment where it is not 0
unfoldable pub atom_text : Structure → Atom → List ℕ
atom_text c s = codes "atom " ++ (get_or c.names s.species [] ++ (position_text c.n s.position ++ (moment_text c.kind c.k s.moment ++ 10 ∷ [])))

-- the lines of these atoms of the cell
abbrev pub atoms_text : Structure → List Atom → List ℕ
atoms_text c [] = []
atoms_text c (s ∷ atoms) = atom_text c s ++ atoms_text c atoms

-- the metric line, the atoms and `end`
abbrev pub metric_and_atoms_text : Structure → List ℕ
metric_and_atoms_text c = metric_text (unsigned_abs c.scale) c.metric ++ atoms_text c c.atoms ++ codes "end\n"

-- the lines behind the first
abbrev pub cell_lines_text : Structure → List ℕ
cell_lines_text c = kind_text c.kind ++ metric_and_atoms_text c

-- the cell file of a cell
abbrev pub cell_file_text : Structure → List ℕ
cell_file_text c = heading_text c.kind ++ cell_lines_text c
