-- What is found of a crystal before its report: its primitive cell, and the list of symmetry operations there.
--   IsReducedPrimitive c p   p is the primitive cell of c in a Niggli-reduced basis
--   IsFound c time p list    besides, the list is that of the symmetry operations of p, with or without time reversal
--   IsOrder c number         the crystal c has so many symmetry operations, translations by whole cells aside
use Rattle.std.specs.Prelude.{◌≡◌, ℕ, pos, Bool, List, length}
use Rattle.crystal_spec.specs.Matrices.{determinant}
use Rattle.crystal_spec.specs.Cells.{IsCell}
use Rattle.crystal_spec.specs.Crystals.{Structure}
use Rattle.crystal_spec.specs.Operations.{Operation, ListsAll}
use Rattle.lattice_spec.specs.Niggli.{IsNiggli}
use Rattle.basis_spec.specs.Translations.{ListsPureTranslations}
use Rattle.basis_spec.specs.Bases.{cell_in_basis, IsPrimitiveIn}
use Rattle.op_group.specs.Lists.{OperationList}
use Rattle.prim_cell.specs.Primitives.{PrimitiveCell}
use Rattle.mag_ops.specs.Groups.{ListsGroup}

-- Q takes coordinates of the cell c to those in a Niggli-reduced basis of all translations of the crystal, and p holds the
-- cell there. The index is det Q, and how many pure translations the crystal has.
pub record IsReducedPrimitive (c : Structure) (p : PrimitiveCell) : Type 0 where
  pub of_cell : IsCell c
  pub primitive : IsPrimitiveIn c p.back
  pub cell : p.cell ≡ cell_in_basis c p.back
  pub niggli : IsNiggli (cell_in_basis c p.back).metric
  pub index : pos p.index ≡ determinant p.back
  pub counted : (os : List Operation) → ListsPureTranslations c os → length os ≡ p.index

-- the operations of that primitive cell, in units of the same 1/n
pub record IsFound (c : Structure) (time : Bool) (p : PrimitiveCell) (list : OperationList) : Type 0 where
  pub cell : IsReducedPrimitive c p
  pub n : list.n ≡ p.cell.n
  pub group : ListsGroup p.cell time list.operations

-- how many operations are in the list of all
pub record IsOrder (c : Structure) (number : ℕ) : Type 0 where
  pub operations : List Operation
  pub all : ListsAll c operations
  pub count : number ≡ length operations
