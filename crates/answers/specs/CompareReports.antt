-- What `compare` tells of two crystals.
--   IsMapsReport c c' q q' same bytes       all maps between them, with their primitive cells in the bases of q and q'
--   IsCompareReport c c' kept same bytes    the same, for the bases that a report speaks of
-- Our own; the maps are those of crystal_compare.
use Rattle.std.specs.Prelude.{◌≡◌, ◌↔◌, ℕ, Bool, true, List}
use Rattle.crystal_spec.specs.Matrices.{Matrix}
use Rattle.crystal_spec.specs.Crystals.{Structure}
use Rattle.lattice_spec.specs.Niggli.{IsNiggli}
use Rattle.basis_spec.specs.Bases.{cell_in_basis, IsPrimitiveIn}
use Rattle.compare_text.specs.Comparisons.{IsComparison, AreOneCrystal}
use Rattle.report_basis.specs.declared.Kept.{Kept}
use Rattle.report_basis.specs.declared.Kept.TheVariants.{NoBase, Back, Two}

-- Q and Q' take coordinates to those in Niggli-reduced bases of all translations of the two crystals. The bytes are the lines
-- of all maps from the one cell there onto the other. Whether there is one is told besides.
pub record IsMapsReport (c c' : Structure) (q q' : Matrix) (same : Bool) (bytes : List ℕ) : Type 0 where
  pub primitive : IsPrimitiveIn c q
  pub niggli : IsNiggli (cell_in_basis c q).metric
  pub other_primitive : IsPrimitiveIn c' q'
  pub other_niggli : IsNiggli (cell_in_basis c' q').metric
  pub comparison : IsComparison c q c' q' bytes
  pub one_crystal : (same ≡ true) ↔ AreOneCrystal c q c' q'

-- the report speaks of the two bases
abbrev pub IsCompareReport : Structure → Structure → Kept → Bool → List ℕ → Type 0
IsCompareReport c c' NoBase same bytes = ⊥
IsCompareReport c c' (Back q) same bytes = ⊥
IsCompareReport c c' (Two q q') same bytes = IsMapsReport c c' q q' same bytes
