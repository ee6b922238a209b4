-- The text of the orbits of the atoms of a cell. One line an atom in order, then for each orbit, in the order of the first
-- of its atoms, a line and the lines of the operations of the site-symmetry group of that atom. Atoms are numbered from 1,
-- and each line has LF at its end, and single spaces.
--   atom_text i name first count      the line of the atom number i, of this name; its site-symmetry group has so many operations
--   atom_lines names i atoms orbits   the lines of these atoms, the first of which is number i
--   orbit_lines_of i size site        the lines of the orbit of the atom number i
--   orbit_part i o                    these lines, where no atom before number i is alike
--   orbit_lines i orbits              the lines of the orbits that begin at one of these atoms, the first of which is number i
--   orbit_text names atoms orbits     the whole text
-- All numbers but those in the text are from 0. The format is our own.
use Rattle.std.specs.Prelude.{ℕ, ◌+◌, ◌==◌, List, [], ◌∷◌, ◌++◌, length, codes, get_or, if◌then◌else◌}
use Rattle.std.specs.Fmt.{decimal}
use Rattle.crystal_spec.specs.Crystals.{Atom}
use Rattle.op_group.specs.Lists.{OperationList}
use Rattle.site_orbits.specs.Entries.{AtomOrbit}
use Rattle.operation_text.specs.OperationText.{operations_text}

-- words, and a number in decimal
abbrev pub counted_text : List ℕ → ℕ → List ℕ
counted_text words number = words ++ decimal number

-- `atom`, its number, its name, the number of the first alike atom, and the count of the site-symmetry group
abbrev pub atom_text : ℕ → List ℕ → ℕ → ℕ → List ℕ
atom_text i name first count = counted_text (codes "atom ") (i + 1) ++ (32 ∷ (name ++ (counted_text (codes " orbit ") (first + 1) ++ (counted_text (codes " site ") count ++ 10 ∷ []))))

-- the lines of these atoms
abbrev pub atom_lines : List (List ℕ) → ℕ → List Atom → List AtomOrbit → List ℕ
atom_lines names i [] orbits = []
atom_lines names i (a ∷ atoms) [] = []
atom_lines names i (a ∷ atoms) (o ∷ orbits) = atom_text i (get_or names a.species []) o.first (length o.site.operations) ++ atom_lines names (i + 1) atoms orbits

-- `orbit`, the number of its first atom, its size, and the count of the site-symmetry group of that atom, whose lines follow
abbrev pub orbit_lines_of : ℕ → ℕ → OperationList → List ℕ
orbit_lines_of i size site = counted_text (codes "orbit ") (i + 1) ++ (counted_text (codes " size ") size ++ (counted_text (codes " site ") (length site.operations) ++ (10 ∷ operations_text site)))

-- nothing, where an atom before number i is alike
abbrev pub orbit_part : ℕ → AtomOrbit → List ℕ
orbit_part i o = if o.first == i then orbit_lines_of i o.size o.site else []

-- the lines of the orbits that begin at one of these atoms
abbrev pub orbit_lines : ℕ → List AtomOrbit → List ℕ
orbit_lines i [] = []
orbit_lines i (o ∷ orbits) = orbit_part i o ++ orbit_lines (i + 1) orbits

-- the lines of the atoms, and those of the orbits
unfoldable pub orbit_text : List (List ℕ) → List Atom → List AtomOrbit → List ℕ
orbit_text names atoms orbits = atom_lines names 0 atoms orbits ++ orbit_lines 0 orbits
