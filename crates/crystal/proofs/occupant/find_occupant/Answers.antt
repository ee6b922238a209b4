use Rattle.std.proofs.Common.{◌≡◌, sym, subst, map, length, arith}
use Rattle.std.specs.Prelude.{IfNone}
use Rattle.crystal.specs.Views.{atom_of}
use Rattle.positions.specs.Positions.{triple_of}
use Rattle.crystal.specs.Occupants.{NoneAt}
use Rattle.crystal.proofs.Covering.{none_listed}
use Rattle.crystal.proofs.Positions.{slice_get-map}
use Rattle.crystal.proofs.occupant.find_occupant.Goals as goal

pub returns-then-is_at-clause-found : goal.returns-then-is_at-clause-found
returns-then-is_at-clause-found c = record {
  atom = atom_of c.index-atoms-i.result;
  numbered = slice_get-map atom_of c.args.atoms.now c.in_ok-i.i c.index-atoms-i.result (omega arith) (sym c.index-atoms-i.is);
  here = c.is_at.ensures.0 c.if-is_at.true;
}

-- no atom is at a position that the index lacks
pub returns-in_err-i-clause-absent : goal.returns-in_err-i-clause-absent
returns-in_err-i-clause-absent c =
    let three : length c.args.place ≡ 3 = omega arith in
    subst (λ r. IfNone r (NoneAt (triple_of c.args.place) (map atom_of c.args.atoms.now))) (sym c.from_residual.ensures)
    (none_listed c.args.index.now.places.keys c.args.place (map atom_of c.args.atoms.now) three c.requires c.in_err-i.ensures)
