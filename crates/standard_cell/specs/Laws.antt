-- The laws of the standard cell.
--   IsSameCrystalLaw      the standard cell is the crystal of the primitive one, in the basis Q with the origin shift p
--   ExistsLaw             each crystal has a standard cell in each basis and with each origin
--   IsUniqueLaw           there is no other standard cell
--   HasCountLaw           it has det(Q) times as many atoms
--   CanTakeLaw            a standard cell can be asked for with each first map of a symbol's group
--   HasGroupLaw           with the first map of a symbol's group its operations are exactly those of the group
use Rattle.std.specs.Prelude.{◌≡◌, ℕ, pos, ◌<ℤ◌, ◌*ℤ◌, List, length}
use Rattle.crystal_spec.specs.Matrices.{Matrix, determinant}
use Rattle.crystal_spec.specs.Crystals.{Structure}
use Rattle.crystal_spec.specs.Operations.{Operation, ListsAll}
use Rattle.crystal_spec.specs.Cells.{IsCell}
use Rattle.basis_spec.specs.Translations.{IsPrimitive}
use Rattle.op_group.specs.Groups.{IsGroupModulo}
use Rattle.match_spec.specs.Points.{Point, IsPoint}
use Rattle.match_spec.specs.FirstMap.{IsFirstMap}
use Rattle.standard_cell.specs.Conditions.{CanTake}
use Rattle.standard_cell.specs.StandardCells.{IsStandard}
use Rattle.standard_cell.specs.Crystals.{SameAt}
use Rattle.standard_cell.specs.Groups.{AreSameOperations}

-- Q has a positive determinant; the origin shift is any three fractions
abbrev pub IsSameCrystalLaw : Type 0
IsSameCrystalLaw =
    (c s : Structure) (q : Matrix) (p : Point) → IsCell c → pos 0 <ℤ pos c.k → pos 0 <ℤ determinant q → IsPoint p → IsStandard c q p s → SameAt s c q p

-- it is finite, however small the fractions
abbrev pub ExistsLaw : Type 0
ExistsLaw = (c : Structure) (q : Matrix) (p : Point) → IsCell c → pos 0 <ℤ determinant q → IsPoint p → (s : Structure) × IsStandard c q p s

-- what is defined is one cell
abbrev pub IsUniqueLaw : Type 0
IsUniqueLaw = (c s t : Structure) (q : Matrix) (p : Point) → IsStandard c q p s → IsStandard c q p t → s ≡ t

-- the lattice of the columns of Q has the index det(Q), so each atom has so many places
abbrev pub HasCountLaw : Type 0
HasCountLaw =
    (c s : Structure) (q : Matrix) (p : Point) → IsCell c → pos 0 <ℤ determinant q → IsPoint p → IsStandard c q p s → pos (length s.atoms) ≡ determinant q *ℤ pos (length c.atoms)

-- c is a primitive cell with all its operations ms, and os are all operations of its standard cell; h is a group with
-- translation parts in units of 1/12, and the map of Q and p is the first that carries it onto ms
abbrev pub HasGroupLaw : Type 0
HasGroupLaw =
    (c s : Structure) (class turn : Matrix) (p : Point) (h ms os : List Operation) → IsCell c → IsPrimitive c → ListsAll c ms → IsGroupModulo 12 h → IsFirstMap h c.n ms class turn p → IsStandard c turn p s → ListsAll s os → AreSameOperations s.n os h

-- h is a group with translation parts in units of 1/12, and the map is the first that carries it onto ms, in units of 1/n
abbrev pub CanTakeLaw : Type 0
CanTakeLaw = (h ms : List Operation) (n : ℕ) (class turn : Matrix) (p : Point) → IsGroupModulo 12 h → IsFirstMap h n ms class turn p → CanTake turn p
