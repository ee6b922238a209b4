use Rattle.std.proofs.Common.{subst}
use Rattle.crystal_spec.specs.Crystals.{Structure}
use Rattle.crystal_spec.specs.Cells.{IsCell}
use Rattle.crystal.specs.CellFields.{structure_of}
use Rattle.crystal.proofs.CellLemmas.{is_cell}
use Rattle.crystal.proofs.cell.Cell.invariant.Goals as goal

pub returns-clause-cell : goal.returns-clause-cell
returns-clause-cell c = subst (λ (t : Structure). IsCell t) c.self.view_is (is_cell (structure_of c.self.inside) c.self.invariant)
