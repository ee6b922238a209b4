-- What `dataset` tells of a crystal.
--   IsDatasetReport c q bytes   what is found of c, as JSON, with its primitive cell in the basis of q
-- Our own.
use Rattle.std.specs.Prelude.{◌≡◌, ℕ, pos, List, length}
use Rattle.crystal_spec.specs.Matrices.{Matrix, determinant}
use Rattle.crystal_spec.specs.Crystals.{Structure}
use Rattle.crystal_spec.specs.Operations.{Operation, ListsAll}
use Rattle.lattice_spec.specs.Niggli.{IsNiggli}
use Rattle.basis_spec.specs.Translations.{ListsPureTranslations}
use Rattle.basis_spec.specs.Bases.{cell_in_basis, IsPrimitiveIn}
use Rattle.mag_type.specs.declared.classification.Kind.{Kind}
use Rattle.mag_type.specs.Families.{IsInFamily, IsUnprimed, IsNumberOf}
use Rattle.mag_type.specs.MagneticTypes.{IsMagneticType}
use Rattle.site_orbits.specs.Entries.{AtomOrbit, HaveOrbits}
use Rattle.report_text.specs.DatasetText.{dataset_text}

-- Q takes coordinates to those in a Niggli-reduced basis of all translations of the crystal. The bytes are the text of the
-- index, which is det Q and how many pure translations the crystal has, Q, the metric tensor there, the list of all symmetry
-- operations there, the number of those of the cell, the magnetic type with the orders of the family group and of the
-- maximal space subgroup, and the orbits of the atoms.
pub record IsDatasetReport (c : Structure) (q : Matrix) (bytes : List ℕ) : Type 0 where
  pub primitive : IsPrimitiveIn c q
  pub niggli : IsNiggli (cell_in_basis c q).metric
  pub index : ℕ
  pub index_is : pos index ≡ determinant q
  pub counted : (os : List Operation) → ListsPureTranslations c os → length os ≡ index
  pub operations : List Operation
  pub all : ListsAll (cell_in_basis c q) operations
  pub operations_of_cell : List Operation
  pub all_of_cell : ListsAll c operations_of_cell
  pub kind : Kind
  pub is_type : IsMagneticType operations kind.kind
  pub family : IsNumberOf (IsInFamily operations) kind.family
  pub unprimed : IsNumberOf (IsUnprimed operations) kind.unprimed
  pub orbits : List AtomOrbit
  pub of_each_atom : length orbits ≡ length c.atoms
  pub are_orbits : HaveOrbits c q (cell_in_basis c q) operations orbits
  pub lines : bytes ≡ dataset_text index q (cell_in_basis c q) (record { n = c.n; operations = operations }) (length operations_of_cell) kind orbits
