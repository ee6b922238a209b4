-- What the values of the code stand for.
use Rattle.crystal_spec.specs.Matrices.{Matrix}
use Rattle.crystal_spec.specs.Crystals.{Atom}
use Rattle.positions.specs.Positions.{triple_of}
use Rattle.crystal.specs.declared.metric.Metric.{Metric}
use Rattle.crystal.specs.declared.atom.Atom.{Atom as CodeAtom}

-- the symmetric matrix of a metric tensor
abbrev pub metric_of : Metric → Matrix
metric_of g = record { a11 = g.aa; a12 = g.ab; a13 = g.ac; a21 = g.ab; a22 = g.bb; a23 = g.bc; a31 = g.ac; a32 = g.bc; a33 = g.cc }

abbrev pub atom_of : CodeAtom → Atom
atom_of a = record { species = a.species; position = triple_of a.place; moment = a.moment }
