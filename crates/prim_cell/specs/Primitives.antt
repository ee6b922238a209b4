-- Primitive cells.
--   TakesToStepBasis c os r         r takes coordinates to those in the triangular basis, where the metric tensor there meets
--                                   the Niggli conditions
--   PrimitiveCell                   a cell, the changes of basis between it and another, and the pure translations of that
--   IsImageModulo n r q             the position q is, modulo n, the image under r of a triple of integers
--   ComesFromMetric index r g       g comes from a metric tensor of integers up to 10^9, in the basis to which r takes coordinates
--   IsPrimitiveCell p               the cell of p is primitive and reduced, and the rest of p leads to it
--   IsReducedBasis c os i r p g     r takes coordinates of c to a reduced basis of the pure translations os
use Rattle.std.specs.Prelude.{◌≡◌, ℕ, pos, ◌*◌, ◌*ℤ◌, ◌^◌, ◌≤◌, List, length}
use Rattle.lists.specs.Increasing.{IsMember}
use Rattle.crystal_spec.specs.Matrices.{Triple, Matrix, product, image, transposed, determinant, adjugate, identity}
use Rattle.crystal_spec.specs.Crystals.{Atom, Structure, IsPositive}
use Rattle.crystal_spec.specs.Operations.{Operation}
use Rattle.lattice_spec.specs.Niggli.{IsNiggli}
use Rattle.crystal.specs.declared.limits.TheConstants.{MOST_ATOMS}
use Rattle.matrix3.specs.Bounds.{EntriesAtMost}
use Rattle.op_group.specs.Lists.{OperationList}
use Rattle.positions.specs.Positions.{modulo}
use Rattle.basis_spec.specs.Metrics.{matrix_multiple, metric_in}
use Rattle.basis_spec.specs.Translations.{IsPrimitive, pure_translation}
use Rattle.basis_spec.specs.Bases.{IsBack, IsPrimitiveIn}
use Rattle.basis_spec.specs.StepBases.{IsSteps, InLattice}

-- the triangular basis of the pure translations is kept where its metric tensor is reduced already
abbrev pub TakesToStepBasis : Structure → List Operation → Matrix → Type 0
TakesToStepBasis c os r =
    (index : ℕ) (back fore : Matrix) → IsSteps c.n (InLattice c.n os) index back fore → IsNiggli (metric_in fore c.metric) → r ≡ back

-- a primitive cell; Q, which takes coordinates to those in its basis; index · P; the index; and pure translations
pub record PrimitiveCell : Type 0 where
  pub cell : Structure
  pub back : Matrix
  pub fore : Matrix
  pub index : ℕ
  pub shifts : OperationList

-- q is Q p modulo n
pub record IsImageModulo (n : ℕ) (r : Matrix) (q : Triple) : Type 0 where
  pub old_position : Triple
  pub position_is : q ≡ modulo n (image r old_position)

-- Qᵀ g Q is index² times a symmetric, positive metric tensor of integers of size at most 10^9
pub record ComesFromMetric (index : ℕ) (r g : Matrix) : Type 0 where
  pub old_metric : Matrix
  pub symmetric : transposed old_metric ≡ old_metric
  pub positive : IsPositive old_metric
  pub entries : EntriesAtMost (10 ^ 9) old_metric
  pub metric_is : metric_in r g ≡ matrix_multiple (pos index *ℤ pos index) old_metric

-- Q is of integers, its determinant is the index, and index · P is `fore`. Q takes a triple to whole cells exactly where the
-- triple is, but for whole cells, a pure translation of the list. The cell is primitive, and its metric tensor meets the
-- Niggli conditions. Each atom is at the image of a triple of integers, modulo n, and the metric tensor comes from one of
-- integers up to 10^9.
pub record IsPrimitiveCell (p : PrimitiveCell) : Type 0 where
  pub determinant_is : pos p.index ≡ determinant p.back
  pub inverse : product p.fore p.back ≡ matrix_multiple (pos p.index) identity
  pub lattice : IsBack p.shifts.n (InLattice p.shifts.n p.shifts.operations) p.back
  pub same_n : p.shifts.n ≡ p.cell.n
  pub pure : (o : Operation) → IsMember o p.shifts.operations → o ≡ pure_translation o.translation
  pub primitive : IsPrimitive p.cell
  pub niggli : IsNiggli p.cell.metric
  pub back_entries : EntriesAtMost (50 * 10 ^ 6) p.back
  pub fore_entries : EntriesAtMost (5 * 10 ^ 15) p.fore
  pub positions : (a : Atom) → IsMember a p.cell.atoms → IsImageModulo p.cell.n p.back a.position
  pub metric : ComesFromMetric p.index p.back p.cell.metric

-- the metric tensor g in that basis is reduced
pub record IsReducedBasis (c : Structure) (os : List Operation) (index : ℕ) (back fore metric : Matrix) : Type 0 where
  pub primitive : IsPrimitiveIn c back
  pub lattice : IsBack c.n (InLattice c.n os) back
  pub determinant_is : pos index ≡ determinant back
  pub count : length os ≡ index
  pub inverse : product fore back ≡ matrix_multiple (pos index) identity
  pub fore_is : fore ≡ adjugate back
  pub metric_is : metric ≡ metric_in (adjugate back) c.metric
  pub niggli : IsNiggli metric
  pub positive : IsPositive metric
  pub kept : TakesToStepBasis c os back
  pub metric_entries : EntriesAtMost (10 ^ 16) metric
  pub back_entries : EntriesAtMost (50 * 10 ^ 6) back
  pub fore_entries : EntriesAtMost (5 * 10 ^ 15) fore
  pub at_least : 1 ≤ index
  pub at_most : index ≤ MOST_ATOMS
