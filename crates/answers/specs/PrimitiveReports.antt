-- What `primitive` tells of a crystal.
--   IsPrimitiveReport c q bytes   the text of the primitive cell of c in the basis to which q takes coordinates
-- Our own.
use Rattle.std.specs.Prelude.{◌≡◌, ℕ, pos, List, length}
use Rattle.crystal_spec.specs.Matrices.{Matrix, determinant}
use Rattle.crystal_spec.specs.Crystals.{Structure}
use Rattle.crystal_spec.specs.Operations.{Operation}
use Rattle.lattice_spec.specs.Niggli.{IsNiggli}
use Rattle.basis_spec.specs.Translations.{ListsPureTranslations}
use Rattle.basis_spec.specs.Bases.{cell_in_basis, IsPrimitiveIn}
use Rattle.report_text.specs.PrimitiveText.{cell_in_basis_text}

-- Q takes coordinates to those in a Niggli-reduced basis of all translations of the crystal, and the bytes are the text of
-- the cell there, with its index and Q. The index is det Q, and how many pure translations the crystal has.
pub record IsPrimitiveReport (c : Structure) (q : Matrix) (bytes : List ℕ) : Type 0 where
  pub primitive : IsPrimitiveIn c q
  pub niggli : IsNiggli (cell_in_basis c q).metric
  pub index : ℕ
  pub index_is : pos index ≡ determinant q
  pub counted : (os : List Operation) → ListsPureTranslations c os → length os ≡ index
  pub lines : bytes ≡ cell_in_basis_text index q (cell_in_basis c q)
