-- What is found of a crystal: what prim_cell says of a primitive cell, gathered, and what the reports need of it.
use Rattle.std.proofs.Common.{◌≡◌, pos, length, subst}
use Rattle.std.specs.Prelude.{IfOk}
use Rattle.std.specs.declared.result.Result.{Result}
use Rattle.std.specs.declared.result.Result.TheVariants.{Ok, Err}
use Rattle.crystal_spec.specs.Matrices.{determinant}
use Rattle.crystal_spec.specs.Cells.{IsCell}
use Rattle.crystal_spec.specs.Crystals.{Structure}
use Rattle.lattice_spec.specs.Niggli.{IsNiggli}
use Rattle.basis_spec.specs.Translations.{ListsPureTranslations}
use Rattle.basis_spec.specs.Bases.{cell_in_basis, IsPrimitiveIn}
use Rattle.prim_cell.specs.Primitives.{PrimitiveCell}
use Rattle.answers.specs.Findings.{IsReducedPrimitive}
use Rattle.answers.proofs.OneReport.{pure_counted}

-- the facts on a primitive cell, gathered
pub reduced_primitive : {E : Type 0} (c : Structure) (made : Result PrimitiveCell E) → IsCell c → IfOk made (λ p. ListsPureTranslations c p.shifts.operations) → IfOk made (λ p. p.cell ≡ cell_in_basis c p.back) → IfOk made (λ p. IsPrimitiveIn c p.back) → IfOk made (λ p. pos p.index ≡ determinant p.back) → IfOk made (λ p. length p.shifts.operations ≡ p.index) → IfOk made (λ p. IsNiggli p.cell.metric) → IfOk made (λ p. IsReducedPrimitive c p)
reduced_primitive c (Ok p) of_cell shifts cell primitive index count niggli = record {
  of_cell = of_cell;
  primitive = primitive;
  cell = cell;
  niggli = subst (λ (t : Structure). IsNiggli t.metric) cell niggli;
  index = index;
  counted = pure_counted c p.shifts.operations p.index shifts count;
}
reduced_primitive c (Err e) of_cell shifts cell primitive index count niggli = tt
