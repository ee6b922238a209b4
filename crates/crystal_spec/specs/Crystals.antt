-- A magnetic crystal: the infinite periodic set of atoms that a cell stands for, and the maps that keep it.
--   Atom                  an atom of a cell: its species, position and moment
--   Structure             a cell: names of species, metric tensor, units, kind of moments and atoms
--   IsPositive g          the three leading minors of g are positive, as those of a metric tensor are
--   Occupied c s p m      the infinite crystal has an atom of species s with moment m at position p
--   KeepsMetric g w       w is an isometry of the metric g: wᵀ g w = g
--   position_after w t p  where the map of matrix w and translation t takes the position p
--   moment_after kind w s m   the moment of this kind that the map of matrix w and time sign s makes of m
--   Keeps c w t s         the map keeps the metric and carries the infinite crystal onto itself
use Rattle.std.specs.Prelude.{◌≡◌, ◌↔◌, ℕ, ℤ, pos, ◌-ℤ◌, ◌*ℤ◌, ◌<ℤ◌, List}
use Rattle.lists.specs.Increasing.{IsMember}
use Rattle.crystal_spec.specs.declared.MomentKind.{MomentKind}
use Rattle.crystal_spec.specs.Matrices.{Triple, Matrix, product, image, transposed, determinant, multiple, sum_of}
use Rattle.crystal_spec.specs.Moments.{moment_matrix}

-- an atom of a cell: its species, its position in units of 1/n, its moment in units of 1/k, both along the axes
pub record Atom : Type 0 where
  pub species : ℕ
  pub position : Triple
  pub moment : Triple

-- A cell. The metric tensor divided by the scale is that of the axes; a species is a number into the names.
pub record Structure : Type 0 where
  pub names : List (List ℕ)
  pub scale : ℤ
  pub metric : Matrix
  pub n : ℕ
  pub k : ℕ
  pub kind : MomentKind
  pub atoms : List Atom

-- the three leading minors are positive
pub record IsPositive (g : Matrix) : Type 0 where
  pub first : pos 0 <ℤ g.a11
  pub second : pos 0 <ℤ (g.a11 *ℤ g.a22 -ℤ g.a12 *ℤ g.a21)
  pub third : pos 0 <ℤ determinant g

-- An atom of this species and moment is at this position: an atom of the cell has them, and its own position differs
-- from this one by whole cells, which are multiples of n in each coordinate.
pub record Occupied (c : Structure) (species : ℕ) (position moment : Triple) : Type 0 where
  pub atom : Atom
  pub of_cell : IsMember atom c.atoms
  pub same_species : atom.species ≡ species
  pub same_moment : atom.moment ≡ moment
  pub cells : Triple
  pub same_position : position ≡ sum_of atom.position (multiple (pos c.n) cells)

-- the matrix keeps all lengths and angles
abbrev pub KeepsMetric : Matrix → Matrix → Type 0
KeepsMetric g w = product (transposed w) (product g w) ≡ g

-- the position p goes to w p + t
abbrev pub position_after : Matrix → Triple → Triple → Triple
position_after w t p = sum_of (image w p) t

-- the moment m goes to its image under the matrix of its kind: sign · det(w) · w m for axial vectors
abbrev pub moment_after : MomentKind → Matrix → ℤ → Triple → Triple
moment_after kind w sign m = image (moment_matrix kind w sign) m

-- For all species, positions and moments, an atom is there exactly where one of the same species with the carried
-- moment is at the carried position.
pub record Keeps (c : Structure) (w : Matrix) (t : Triple) (sign : ℤ) : Type 0 where
  pub metric : KeepsMetric c.metric w
  pub crystal : (species : ℕ) (position moment : Triple) → Occupied c species position moment ↔ Occupied c species (position_after w t position) (moment_after c.kind w sign moment)
