use Rattle.std.specs.Prelude.{◌≡◌, length}
use Rattle.site_orbits.specs.Entries.{HaveOrbits}
use Rattle.site_orbits.proofs.equivalent.orbits.Given as goal

-- the orbits of the atoms so far
abbrev pub invariant-loop-i : goal.invariant-loop-i
invariant-loop-i l = record {
  long : length l.entries.items ≡ l.i;
  orbits : HaveOrbits l.cell l.prim.back l.prim.cell l.list.operations l.entries.items;
}
