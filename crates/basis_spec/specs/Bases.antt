-- The same crystal in another basis. Q takes coordinates in the one basis to those in the other: it is P⁻¹, where P has
-- the new basis vectors as columns. In units of 1/n these vectors are n P.
--   ComesFrom c q s p m            Q brings an atom of c of species s to the position p and the moment m
--   SameCrystal c c' q             c' is the crystal of c in the basis to which Q takes coordinates
--   IsBack n in_it q               Q takes coordinates to those in a basis of the lattice of which in_it tells
--   first_at_each_position atoms   in order, each atom left out where its position came before
--   in_basis n kind q a       the atom a, with a moment of this kind, in the other basis, within one cell
--   cell_in_basis c q              the cell of c in the other basis
--   IsPrimitiveIn c q              that cell is the same crystal, and primitive
use Rattle.std.specs.Prelude.{◌≡◌, ◌↔◌, ℕ, pos, ◌*ℤ◌, ◌≤ℤ◌, List, [], ◌∷◌, map, Bool, true, false, ◌&&◌}
use Rattle.std.specs.Ordering.{int_eq}
use Rattle.crystal_spec.specs.declared.MomentKind.{MomentKind}
use Rattle.crystal_spec.specs.Matrices.{Triple, Matrix, product, image, determinant, adjugate, identity}
use Rattle.crystal_spec.specs.Moments.{turn_matrix}
use Rattle.crystal_spec.specs.Crystals.{Atom, Structure, Occupied}
use Rattle.positions.specs.Positions.{IsWholeCells, modulo}
use Rattle.basis_spec.specs.Metrics.{matrix_multiple, metric_in}
use Rattle.basis_spec.specs.Translations.{IsPrimitive}

-- an atom of the one crystal that Q brings to this position and moment
pub record ComesFrom (c : Structure) (q : Matrix) (species : ℕ) (position moment : Triple) : Type 0 where
  pub old_position : Triple
  pub old_moment : Triple
  pub position_is : image q old_position ≡ position
  pub moment_is : image (turn_matrix c.kind q) old_moment ≡ moment
  pub occupied : Occupied c species old_position old_moment

-- Q has a positive determinant. The names, the units and the kind of moments are the same; the metric tensor, with its
-- scale, is the same in the other basis; an atom is at a position exactly where one of its species is at the image, with
-- the image of its moment, which Q turns if it is a vector; and each atom of the other crystal is such an image.
pub record SameCrystal (c c' : Structure) (q : Matrix) : Type 0 where
  pub determinant_positive : pos 1 ≤ℤ determinant q
  pub names : c'.names ≡ c.names
  pub n : c'.n ≡ c.n
  pub k : c'.k ≡ c.k
  pub kind : c'.kind ≡ c.kind
  pub scale : c'.scale ≡ (determinant q *ℤ determinant q) *ℤ c.scale
  pub metric : metric_in q c'.metric ≡ matrix_multiple (determinant q *ℤ determinant q) c.metric
  pub crystal : (species : ℕ) (position moment : Triple) → Occupied c species position moment ↔ Occupied c' species (image q position) (image (turn_matrix c.kind q) moment)
  pub onto : (species : ℕ) (position moment : Triple) → Occupied c' species position moment → ComesFrom c q species position moment

-- Q has a positive determinant; Q times the matrix of the basis vectors, in units of 1/n, is n times the identity; and the
-- members of the lattice are the triples that Q takes to whole cells
pub record IsBack (n : ℕ) (in_it : Triple → Type 0) (q : Matrix) : Type 0 where
  pub determinant_positive : pos 1 ≤ℤ determinant q
  pub steps : Matrix
  pub whole : product q steps ≡ matrix_multiple (pos n) identity
  pub exact : (t : Triple) → in_it t ↔ IsWholeCells n (image q t)

-- whether two positions are one
abbrev pub is_same_position : Triple → Triple → Bool
is_same_position p q = int_eq p.x q.x && (int_eq p.y q.y && int_eq p.z q.z)

-- the atoms that are not at this position
abbrev pub without_position : Triple → List Atom → List Atom
without_position p [] = []
without_position p (a ∷ atoms) = elim (is_same_position p a.position) [ true ↦ without_position p atoms | false ↦ a ∷ without_position p atoms ]

-- in order, each atom left out where its position came before
abbrev pub first_at_each_position : List Atom → List Atom
first_at_each_position [] = []
first_at_each_position (a ∷ atoms) = a ∷ without_position a.position (first_at_each_position atoms)

-- the atom a in the basis to which Q takes coordinates, brought into the cell
abbrev pub in_basis : ℕ → MomentKind → Matrix → Atom → Atom
in_basis n kind q a = record { species = a.species; position = modulo n (image q a.position); moment = image (turn_matrix kind q) a.moment }

-- The cell in the basis to which Q takes coordinates: Prim(C, Q), where that basis is one of all translations. adj(Q) is
-- det(Q) · P, so the metric tensor and its scale are those of Pᵀ G P, each times det(Q)².
unfoldable pub cell_in_basis : Structure → Matrix → Structure
cell_in_basis c q = record {
  names = c.names;
  scale = (determinant q *ℤ determinant q) *ℤ c.scale;
  metric = metric_in (adjugate q) c.metric;
  n = c.n;
  k = c.k;
  kind = c.kind;
  atoms = first_at_each_position (map (in_basis c.n c.kind q) c.atoms);
}

-- the cell in that basis is the same crystal, and primitive
pub record IsPrimitiveIn (c : Structure) (q : Matrix) : Type 0 where
  pub same : SameCrystal c (cell_in_basis c q) q
  pub primitive : IsPrimitive (cell_in_basis c q)
