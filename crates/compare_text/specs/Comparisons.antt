-- The comparison of two cells, each in a basis to which a matrix takes its coordinates.
--   IsComparison c q c' q' text   the text is that of all maps between the cells in these bases
--   AreOneCrystal c q c' q'       there is a map
-- Our own. In reduced bases of primitive cells the maps are all isometries that carry the one crystal onto the other.
use Rattle.std.specs.Prelude.{◌≡◌, ℕ, List}
use Rattle.crystal_spec.specs.Matrices.{Matrix}
use Rattle.crystal_spec.specs.Crystals.{Structure}
use Rattle.basis_spec.specs.Bases.{cell_in_basis}
use Rattle.crystal_compare.specs.Maps.{AffineMap, Takes}
use Rattle.crystal_compare.specs.Lists.{ListsMaps}
use Rattle.compare_text.specs.ComparisonText.{comparison_text}

pub record IsComparison (c : Structure) (q : Matrix) (c' : Structure) (q' : Matrix) (text : List ℕ) : Type 0 where
  pub maps : List AffineMap
  pub all : ListsMaps (cell_in_basis c q) (cell_in_basis c' q') maps
  pub is : text ≡ comparison_text q q' maps

pub record AreOneCrystal (c : Structure) (q : Matrix) (c' : Structure) (q' : Matrix) : Type 0 where
  pub map : AffineMap
  pub takes : Takes (cell_in_basis c q) (cell_in_basis c' q') map
