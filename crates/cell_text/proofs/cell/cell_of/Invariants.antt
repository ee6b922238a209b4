use Rattle.std.proofs.Common.{◌≡◌, map, take, suc}
use Rattle.cell_text.specs.CellFile.{names_of}
use Rattle.cell_text.specs.Filling.{filled}
use Rattle.cell_text.specs.Views.{atom_view}
use Rattle.cell_text.specs.Readers.{metric_view, kind_or_default}
use Rattle.cell_text.proofs.cell.cell_of.Given as goal

-- the cell has the atoms so far
abbrev pub invariant-loop-atom : goal.invariant-loop-atom
invariant-loop-atom l = record {
  cell : l.cell ≡ filled (kind_or_default l.kind) (metric_view l.metric) l.n l.k (map atom_view l.atoms) (map atom_view (take (suc l.atom-index) l.atoms));
  names : map (λ v. v.items) l.names.keys ≡ names_of (map atom_view (take (suc l.atom-index) l.atoms));
}
