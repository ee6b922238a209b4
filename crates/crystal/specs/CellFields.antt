-- What the fields of a cell stand for.
use Rattle.std.specs.Prelude.{map}
use Rattle.crystal_spec.specs.Crystals.{Structure}
use Rattle.crystal.specs.Views.{metric_of, atom_of}
use Rattle.crystal.specs.Cells.{IsCellWithinLimits}
use Rattle.crystal.specs.declared.cell.Cell.TheInside.{Inside}

abbrev pub structure_of : Inside → Structure
structure_of c = record { names = c.names.items; scale = c.scale; metric = metric_of c.metric; n = c.n; k = c.k; kind = c.kind; atoms = map atom_of c.atoms.items }

abbrev pub HoldsCell : Inside → Type 0
HoldsCell c = IsCellWithinLimits (structure_of c)
