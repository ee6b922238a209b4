-- The cell that the generated text spells.
--   component d           the third component of the moment that a draw gives
--   atom_of ds v          the atom at a node, where these are the draws of the classes
--   generated_cell seed   the cell
-- Our own.
use Rattle.std.specs.Prelude.{ℕ, zero, suc, ℤ, pos, negsuc, List, [], ◌∷◌, map, codes}
use Rattle.crystal_spec.specs.Moments.{axial_vectors}
use Rattle.crystal_spec.specs.Crystals.{Atom, Structure}
use Rattle.generated_cell.specs.Generator.{draws}
use Rattle.generated_cell.specs.GeneratedText.{Node, nodes, draw_at}

-- none, one unit along the axis, or one against it
abbrev pub component : ℕ → ℤ
component zero = pos 0
component (suc zero) = pos 1
component (suc (suc d)) = negsuc 0

-- The position is in units of 1/8, the moment along the third axis.
abbrev pub atom_of : List ℕ → Node → Atom
atom_of ds v = record {
  species = 0;
  position = record { x = pos v.i; y = pos v.j; z = pos v.k };
  moment = record { x = pos 0; y = pos 0; z = component (draw_at ds v) };
}

-- A cubic cell with axes of squared length 64: two neighbours are at the distance 1.
unfoldable pub generated_cell : ℕ → Structure
generated_cell seed = record {
  names = codes "A" ∷ [];
  scale = pos 1;
  metric = record { a11 = pos 64; a12 = pos 0; a13 = pos 0; a21 = pos 0; a22 = pos 64; a23 = pos 0; a31 = pos 0; a32 = pos 0; a33 = pos 64 };
  n = 8;
  k = 1;
  kind = axial_vectors;
  atoms = map (atom_of (draws 8 seed)) nodes;
}
