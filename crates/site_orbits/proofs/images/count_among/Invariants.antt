use Rattle.std.proofs.Common.{drop}
use Rattle.std.specs.Prelude.{◌≡◌, ◌+◌, ◌≤◌, length, map}
use Rattle.positions.specs.Positions.{triple_of}
use Rattle.site_orbits.specs.Images.{atoms_at}
use Rattle.site_orbits.proofs.images.count_among.Given as goal

-- those so far and those that are left are all
abbrev pub invariant-loop-i : goal.invariant-loop-i
invariant-loop-i l = record {
  counted : l.count + length (atoms_at (map triple_of l.images) (drop l.i l.cell.atoms)) ≡ length (atoms_at (map triple_of l.images) l.cell.atoms);
  at_most : l.count ≤ l.i;
}
