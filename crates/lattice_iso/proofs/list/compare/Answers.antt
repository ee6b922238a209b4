use Rattle.std.proofs.Common.{◌∙◌}
use Rattle.lattice_iso.proofs.MatrixPlaces.{matrix_order_by_entries}
use Rattle.lattice_iso.proofs.list.compare.Goals as goal

pub returns : goal.returns
returns c = c.cmp.ensures ∙ matrix_order_by_entries c.args.v.now c.args.w.now
