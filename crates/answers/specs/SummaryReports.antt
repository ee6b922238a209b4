-- What `selfrun` tells of the cell that a seed generates.
--   IsSummary c q bytes          the summary of the crystal c, with its primitive cell in the basis of q
--   IsSeedReport seed kept bytes   that of the cell that the text of the seed spells
-- Our own.
use Rattle.std.specs.Prelude.{◌≡◌, ℕ, pos, List, length}
use Rattle.crystal_spec.specs.Matrices.{Matrix, determinant}
use Rattle.crystal_spec.specs.Crystals.{Structure}
use Rattle.crystal_spec.specs.Operations.{Operation, ListsAll}
use Rattle.lattice_spec.specs.Niggli.{IsNiggli}
use Rattle.basis_spec.specs.Translations.{ListsPureTranslations}
use Rattle.basis_spec.specs.Bases.{cell_in_basis, IsPrimitiveIn}
use Rattle.mag_type.specs.MagneticTypes.{IsMagneticType}
use Rattle.cell_text.specs.CellFile.{Spells}
use Rattle.generated_cell.specs.GeneratedText.{generated_text}
use Rattle.summary_text.specs.SummaryText.{summary_text}
use Rattle.report_basis.specs.declared.Kept.{Kept}
use Rattle.report_basis.specs.declared.Kept.TheVariants.{NoBase, Back, Two}

-- Q takes coordinates to those in a Niggli-reduced basis of all translations of the crystal. The bytes are the lines of the
-- number of atoms; of the index, which is det Q and how many pure translations the crystal has; of the number of symmetry
-- operations there, with their magnetic type; and of the number of those of the cell.
pub record IsSummary (c : Structure) (q : Matrix) (bytes : List ℕ) : Type 0 where
  pub primitive : IsPrimitiveIn c q
  pub niggli : IsNiggli (cell_in_basis c q).metric
  pub index : ℕ
  pub index_is : pos index ≡ determinant q
  pub counted : (os : List Operation) → ListsPureTranslations c os → length os ≡ index
  pub operations : List Operation
  pub all : ListsAll (cell_in_basis c q) operations
  pub operations_of_cell : List Operation
  pub all_of_cell : ListsAll c operations_of_cell
  pub kind : ℕ
  pub is_type : IsMagneticType operations kind
  pub lines : bytes ≡ summary_text (length c.atoms) index (length operations) kind (length operations_of_cell)

-- the text that the seed generates spells a cell, of which this is the summary
pub record IsSeedSummary (seed : ℕ) (q : Matrix) (bytes : List ℕ) : Type 0 where
  pub cell : Structure
  pub spelled : Spells (generated_text seed) cell
  pub summary : IsSummary cell q bytes

abbrev pub IsSeedReport : ℕ → Kept → List ℕ → Type 0
IsSeedReport seed NoBase bytes = ⊥
IsSeedReport seed (Back q) bytes = IsSeedSummary seed q bytes
IsSeedReport seed (Two q q') bytes = ⊥
