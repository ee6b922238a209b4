-- Maps in whole steps, and what the search has found. No public contract cites these words.
--   steps c c'                  how many steps each axis of c' is divided into: n n'
--   IsMovedTo c c' b t e k l .. the atom at q is the image of that at p: e q = n' B p + t, and k times its moment is L m
--   Moves c c' b t e k l        each atom of c goes to one of c' so, and each atom of c' is reached
--   moments_of c c' w sign      the matrix by which a map acts on moments, in units of 1/(k k')
--   MapsOnto c c' w t sign      the map of matrix w and translation part t, in steps, does so
--   HaveOneMoment c c' l a b    the moment of b is the image of that of a
--   IsCarriedPlace, IsBetweenPlaces  the image of a position is this one within the cell; it is none in units of 1/n'
--   IsFolded, IsCarriedCoordinate    so it is for one coordinate; HasImageAt: an atom at this position is the image of a
--   IsAtomCarried, HasAtomImage, HaveAtomImages    what is tested of atoms of the cells
--   IsIsometry c c' w           w is unimodular and takes the lengths of c to those of c'
--   IsMap c c' o                o maps c onto c', by its matrix, its translation part in steps and its sign
--   IsFoldedOnto c c' w a b t   t is the translation part, within one cell, with which w carries a position onto another
--   IsMapAs, IsMapOnto, IsMapOntoNumber, IsMapBy    the maps that are found for one operation, atom and matrix
--   AreMetricsOf c c' g g'      the two metric tensors in common units
--   IsSecondColumn, IsThirdColumn    lengths and products of columns are those of the axes
--   IsMapOfTwo, IsMapOfOne, IsMapOfColumns    maps whose first two columns, first column or none are given, the others
--                               candidates
--   shifted n o                 the map of o, whose translation part is in units of 1/n
use Rattle.std.specs.Prelude.{◌≡◌, ℕ, ◌*◌, ◌^◌, ◌<◌, ℤ, pos, ◌+ℤ◌, ◌*ℤ◌, ◌≤ℤ◌, ◌<ℤ◌, List, [], ◌∷◌, slice_get, Some}
use Rattle.numbers.specs.Fraction.{lowest}
use Rattle.lists.specs.Increasing.{IsMember}
use Rattle.lists.specs.Any.{AnyBelow}
use Rattle.crystal_spec.specs.declared.Sign.{Sign}
use Rattle.crystal_spec.specs.Matrices.{Triple, Matrix, image, determinant, multiple, sum_of, difference}
use Rattle.crystal_spec.specs.Moments.{moment_matrix}
use Rattle.crystal_spec.specs.Crystals.{Atom, Structure, Occupied}
use Rattle.crystal_spec.specs.Operations.{Operation, sign_factor, IsWithinCell}
use Rattle.basis_spec.specs.Metrics.{matrix_multiple}
use Rattle.matrix3.specs.Bounds.{EntriesAtMost}
use Rattle.positions.specs.Positions.{IsModulo}
use Rattle.lattice_iso.specs.Columns.{candidate, scalar_product}
use Rattle.matrix3.specs.Matrices.{of_columns}
use Rattle.crystal_compare.specs.Maps.{AffineMap, HaveOneName, CarriesMetric}

abbrev pub steps : Structure → Structure → ℕ
steps c c' = c.n * c'.n

pub record IsMovedTo (c c' : Structure) (b : Matrix) (t : Triple) (e k : ℤ) (l : Matrix) (s : ℕ) (p m : Triple) (r : ℕ) (q h : Triple) : Type 0 where
  pub one_name : HaveOneName c c' s r
  pub position : multiple e q ≡ sum_of (multiple (pos c'.n) (image b p)) t
  pub moment : multiple k h ≡ image l m

pub record HasMovedTo (c c' : Structure) (b : Matrix) (t : Triple) (e k : ℤ) (l : Matrix) (s : ℕ) (p m : Triple) : Type 0 where
  pub species : ℕ
  pub position : Triple
  pub moment : Triple
  pub occupied : Occupied c' species position moment
  pub moved : IsMovedTo c c' b t e k l s p m species position moment

pub record IsMovedFrom (c c' : Structure) (b : Matrix) (t : Triple) (e k : ℤ) (l : Matrix) (r : ℕ) (q h : Triple) : Type 0 where
  pub species : ℕ
  pub position : Triple
  pub moment : Triple
  pub occupied : Occupied c species position moment
  pub moved : IsMovedTo c c' b t e k l species position moment r q h

pub record Moves (c c' : Structure) (b : Matrix) (t : Triple) (e k : ℤ) (l : Matrix) : Type 0 where
  pub images : (s : ℕ) (p m : Triple) → Occupied c s p m → HasMovedTo c c' b t e k l s p m
  pub onto : (r : ℕ) (q h : Triple) → Occupied c' r q h → IsMovedFrom c c' b t e k l r q h

unfoldable pub moments_of : Structure → Structure → Matrix → Sign → Matrix
moments_of c c' w sign = matrix_multiple (pos c'.k) (moment_matrix c.kind w (sign_factor sign))

abbrev pub MapsOnto : Structure → Structure → Matrix → Triple → Sign → Type 0
MapsOnto c c' w t sign = Moves c c' w t (pos c.n) (pos c.k) (moments_of c c' w sign)

-- k times the moment of b is k' times the image of that of a
abbrev pub HaveOneMoment : Structure → Structure → Matrix → Atom → Atom → Type 0
HaveOneMoment c c' l a b = multiple (pos c.k) b.moment ≡ multiple (pos c'.k) (image l a.moment)

-- n (q + n' cells) = n' W p + t, with q within the cell
pub record IsCarriedPlace (n n' : ℕ) (w : Matrix) (t p q : Triple) : Type 0 where
  pub within : IsWithinCell n' q
  pub cells : Triple
  pub position : multiple (pos n) (sum_of q (multiple (pos n') cells)) ≡ sum_of (multiple (pos n') (image w p)) t

-- z is r but for multiples of n
pub record IsFolded (n : ℤ) (z r : ℤ) : Type 0 where
  pub at_least : pos 0 ≤ℤ r
  pub below : r <ℤ n
  pub cells : ℤ
  pub same : z ≡ r +ℤ n *ℤ cells

-- n (r + m cells) = m x + t, with r from 0 to m - 1
pub record IsCarriedCoordinate (n m : ℕ) (x t : ℤ) (r : ℕ) : Type 0 where
  pub below : r < m
  pub cells : ℤ
  pub same : pos n *ℤ (pos r +ℤ pos m *ℤ cells) ≡ pos m *ℤ x +ℤ t

-- an atom of the second cell at this position is the image of the atom a
pub record HasImageAt (c c' : Structure) (l : Matrix) (a : Atom) (q : Triple) : Type 0 where
  pub atom : Atom
  pub of_cell : IsMember atom c'.atoms
  pub here : atom.position ≡ q
  pub one_name : HaveOneName c c' a.species atom.species
  pub one_moment : HaveOneMoment c c' l a atom

-- no position in units of 1/n' is the image
abbrev pub IsBetweenPlaces : ℕ → ℕ → Matrix → Triple → Triple → Type 0
IsBetweenPlaces n n' w t p = (q : Triple) → multiple (pos n) q ≡ sum_of (multiple (pos n') (image w p)) t → ⊥

-- the atom a goes to the atom b, but for whole cells, by a map that acts on moments by l
pub record IsAtomCarried (c c' : Structure) (w : Matrix) (t : Triple) (l : Matrix) (a b : Atom) : Type 0 where
  pub one_name : HaveOneName c c' a.species b.species
  pub cells : Triple
  pub position : multiple (pos c.n) (sum_of b.position (multiple (pos c'.n) cells)) ≡ sum_of (multiple (pos c'.n) (image w a.position)) t
  pub moment : HaveOneMoment c c' l a b

pub record HasAtomImage (c c' : Structure) (w : Matrix) (t : Triple) (l : Matrix) (a : Atom) : Type 0 where
  pub atom : Atom
  pub of_cell : IsMember atom c'.atoms
  pub carried : IsAtomCarried c c' w t l a atom

abbrev pub HaveAtomImages : Structure → Structure → Matrix → Triple → Matrix → List Atom → Type 0
HaveAtomImages c c' w t l [] = Unit {0}
HaveAtomImages c c' w t l (a ∷ atoms) = HasAtomImage c c' w t l a × HaveAtomImages c c' w t l atoms

pub record IsIsometry (c c' : Structure) (w : Matrix) : Type 0 where
  pub unimodular : determinant w *ℤ determinant w ≡ pos 1
  pub metric : CarriesMetric c c' w

pub record IsMap (c c' : Structure) (o : Operation) : Type 0 where
  pub within : IsWithinCell (steps c c') o.translation
  pub same_kind : c'.kind ≡ c.kind
  pub isometry : IsIsometry c c' o.matrix
  pub onto : MapsOnto c c' o.matrix o.translation o.sign

-- n q less n' W p, within one cell
abbrev pub IsFoldedOnto : Structure → Structure → Matrix → Triple → Triple → Triple → Type 0
IsFoldedOnto c c' w p q t = IsModulo (steps c c') (difference (multiple (pos c.n) q) (multiple (pos c'.n) (image w p))) t

pub record IsMapOnto (c c' : Structure) (w : Matrix) (a b : Atom) (o : Operation) : Type 0 where
  pub same_matrix : o.matrix ≡ w
  pub folded : IsFoldedOnto c c' w a.position b.position o.translation
  pub is_map : IsMap c c' o

-- onto the atom number j of the second cell
pub record IsMapOntoNumber (c c' : Structure) (w : Matrix) (a : Atom) (o : Operation) (j : ℕ) : Type 0 where
  pub atom : Atom
  pub is_atom : slice_get c'.atoms j ≡ Some atom
  pub one_name : HaveOneName c c' a.species atom.species
  pub onto : IsMapOnto c c' w a atom o

-- o is this operation, and a map
pub record IsMapAs (c c' : Structure) (a o : Operation) : Type 0 where
  pub same : o ≡ a
  pub is_map : IsMap c c' o

pub record IsMapBy (c c' : Structure) (w : Matrix) (o : Operation) : Type 0 where
  pub same_matrix : o.matrix ≡ w
  pub is_map : IsMap c c' o

-- one of small entries
pub record IsSmallMap (c c' : Structure) (o : Operation) : Type 0 where
  pub small : EntriesAtMost 1 o.matrix
  pub is_map : IsMap c c' o

-- the metric tensors in common units: each times the scale of the other cell
pub record AreMetricsOf (c c' : Structure) (g g' : Matrix) : Type 0 where
  pub one : g ≡ matrix_multiple c'.scale c.metric
  pub other : g' ≡ matrix_multiple c.scale c'.metric
  pub small : EntriesAtMost (10 ^ 34) g'

-- the length of b and its product with a are those of the axes
pub record IsSecondColumn (g g' : Matrix) (a b : Triple) : Type 0 where
  pub length : scalar_product g' b b ≡ g.a22
  pub first : scalar_product g' a b ≡ g.a12

-- the length of c and its products with a and b are those of the axes
pub record IsThirdColumn (g g' : Matrix) (a b c : Triple) : Type 0 where
  pub length : scalar_product g' c c ≡ g.a33
  pub first : scalar_product g' a c ≡ g.a13
  pub second : scalar_product g' b c ≡ g.a23

-- of a matrix whose first two columns these are, and whose third is a candidate
abbrev pub IsMapOfTwo : Structure → Structure → Triple → Triple → Operation → Type 0
IsMapOfTwo c c' a b o = AnyBelow 27 (λ k. IsMapBy c c' (of_columns a b (candidate k)) o)

abbrev pub IsMapOfOne : Structure → Structure → Triple → Operation → Type 0
IsMapOfOne c c' a o = AnyBelow 27 (λ k. IsMapOfTwo c c' a (candidate k) o)

abbrev pub IsMapOfColumns : Structure → Structure → Operation → Type 0
IsMapOfColumns c c' o = AnyBelow 27 (λ k. IsMapOfOne c c' (candidate k) o)

-- its translation part as fractions in lowest terms
unfoldable pub shifted : ℕ → Operation → AffineMap
shifted n o = record {
  matrix = o.matrix;
  shift = record { x = lowest o.translation.x (pos n); y = lowest o.translation.y (pos n); z = lowest o.translation.z (pos n) };
  sign = o.sign;
}
