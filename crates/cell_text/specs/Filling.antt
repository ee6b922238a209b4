-- A cell while its atoms are added one by one.
--   with_atom c a      the cell with one atom more, and its name where it is new
--   filled held as     the cell of these contents with the first atoms alone
use Rattle.std.specs.Prelude.{ℕ, pos, List, [], ◌∷◌, ◌++◌, map, true}
use Rattle.crystal_spec.specs.declared.MomentKind.{MomentKind}
use Rattle.crystal_spec.specs.Crystals.{Structure}
use Rattle.cell_text.specs.Entries.{AtomLine, ScaledMetric, Contents}
use Rattle.cell_text.specs.CellFile.{with_name, names_of, atom_of}

abbrev pub with_atom : Structure → AtomLine → Structure
with_atom c a = record c { names = with_name c.names a.name; atoms = c.atoms ++ atom_of c.names c.n c.k a ∷ [] }

-- the contents of a whole file
abbrev pub whole_of : List MomentKind → ScaledMetric → List AtomLine → Contents
whole_of kinds metric atoms = record { kinds = kinds; metrics = metric ∷ []; atoms = atoms; ended = true }

-- the species are numbered as in the whole cell
abbrev pub filled : MomentKind → ScaledMetric → ℕ → ℕ → List AtomLine → List AtomLine → Structure
filled kind metric n k all held = record {
  names = names_of held;
  scale = pos metric.scale;
  metric = metric.entries;
  n = n;
  k = k;
  kind = kind;
  atoms = map (atom_of (names_of all) n k) held;
}
