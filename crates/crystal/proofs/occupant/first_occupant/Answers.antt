use Rattle.std.proofs.Common.{sym, arith}
use Rattle.crystal.specs.Views.{atom_of}
use Rattle.crystal.proofs.Positions.{slice_get-map}
use Rattle.crystal.proofs.occupant.first_occupant.Goals as goal

pub returns-then-is_at-clause-found : goal.returns-then-is_at-clause-found
returns-then-is_at-clause-found c = record {
  atom = atom_of c.index-atoms-i.result;
  numbered = slice_get-map atom_of c.args.atoms.now c.loop-i.i c.index-atoms-i.result (omega arith) (sym c.index-atoms-i.is);
  here = c.is_at.ensures.0 c.if-is_at.true;
}
