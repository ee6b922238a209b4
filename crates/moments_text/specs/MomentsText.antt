-- The text of the moments that the atoms of a cell allow. The first line is `back` with the nine entries of Q of its primitive
-- cell row by row. Then comes one line an atom in order: `atom`, its number from 1, its name, `allowed`, the allowed count and
-- the nine entries of the projector row by row. Each line has LF at its end, and single spaces.
--   allowed_count kind p         the allowed count of a projector
--   allowed_by kind os           the moments that the operations os of a site allow: their projector and its count
--   fractions_text p             the entries of a matrix of fractions row by row, each in lowest terms behind a space
--   allowed_text a               the end of the line of an atom, from `allowed` on
--   name_text i name             its beginning
--   atom_text i name a           the line of the atom number i
--   atom_lines kind names i atoms orbits   the lines of these atoms, the first of which is number i
--   moments_text q c orbits      the whole text
--   AreOrbits c r b orbits       orbits are those of the atoms of c under all operations of b, r taking coordinates of c to those in b
-- The format is our own.
use Rattle.std.specs.Prelude.{◌≡◌, ℕ, ◌+◌, ◌/◌, List, [], ◌∷◌, ◌++◌, length, codes, get_or, unsigned_abs}
use Rattle.std.specs.Fmt.{decimal}
use Rattle.numbers.specs.Fraction.{Fraction, fraction_ops}
use Rattle.matrix3.specs.declared.matrix.Mat3.{Mat3}
use Rattle.crystal_spec.specs.declared.MomentKind.{MomentKind}
use Rattle.crystal_spec.specs.Matrices.{Matrix}
use Rattle.crystal_spec.specs.Crystals.{Atom, Structure}
use Rattle.crystal_spec.specs.Operations.{Operation, ListsAll}
use Rattle.site_orbits.specs.Entries.{AtomOrbit, HaveOrbits}
use Rattle.moment_space.specs.Projectors.{AllowedMoments, projector_of, trace, times_on_diagonal}
use Rattle.plain_text.specs.NumberText.{number_text}
use Rattle.operation_text.specs.EntryText.{entries_text}

-- the trace, and for scalars a third of it
abbrev pub allowed_count : MomentKind → Mat3 Fraction → ℕ
allowed_count kind p = unsigned_abs (trace fraction_ops p).numerator / times_on_diagonal kind

-- the projector of these operations, and its count
abbrev pub allowed_by : MomentKind → List Operation → AllowedMoments
allowed_by kind os = record { kind = kind; projector = projector_of kind os; count = allowed_count kind (projector_of kind os) }

-- a fraction, behind a space
abbrev pub fraction_text : Fraction → List ℕ
fraction_text f = 32 ∷ number_text f.numerator (unsigned_abs f.denominator)

-- a row of a matrix
abbrev pub row_text : Fraction → Fraction → Fraction → List ℕ
row_text f g h = fraction_text f ++ fraction_text g ++ fraction_text h

-- the three rows
abbrev pub fractions_text : Mat3 Fraction → List ℕ
fractions_text p = row_text p.a11 p.a12 p.a13 ++ row_text p.a21 p.a22 p.a23 ++ row_text p.a31 p.a32 p.a33

-- the count and the projector
abbrev pub allowed_text : AllowedMoments → List ℕ
allowed_text a = codes " allowed " ++ decimal a.count ++ fractions_text a.projector ++ 10 ∷ []

-- number and name of an atom
abbrev pub name_text : ℕ → List ℕ → List ℕ
name_text i name = codes "atom " ++ decimal i ++ 32 ∷ name

-- number and name, and what the site allows
unfoldable pub atom_text : ℕ → List ℕ → AllowedMoments → List ℕ
atom_text i name a = name_text i name ++ allowed_text a

-- one line an atom
abbrev pub atom_lines : MomentKind → List (List ℕ) → ℕ → List Atom → List AtomOrbit → List ℕ
atom_lines kind names i [] orbits = []
atom_lines kind names i (a ∷ atoms) [] = []
atom_lines kind names i (a ∷ atoms) (o ∷ orbits) = atom_text i (get_or names a.species []) (allowed_by kind o.site.operations) ++ atom_lines kind names (i + 1) atoms orbits

-- Q of the primitive cell, and the lines of the atoms
abbrev pub moments_text : Matrix → Structure → List AtomOrbit → List ℕ
moments_text q c orbits = codes "back" ++ entries_text q ++ 10 ∷ atom_lines c.kind c.names 1 c.atoms orbits

-- the orbits under all operations of b, one an atom
pub record AreOrbits (c : Structure) (r : Matrix) (b : Structure) (orbits : List AtomOrbit) : Type 0 where
  pub operations : List Operation
  pub all : ListsAll b operations
  pub of_each_atom : length orbits ≡ length c.atoms
  pub are_orbits : HaveOrbits c r b operations orbits
