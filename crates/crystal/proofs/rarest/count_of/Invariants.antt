use Rattle.std.proofs.Common.{drop}
use Rattle.std.specs.Prelude.{◌≡◌, ◌+◌, ◌≤◌, length}
use Rattle.crystal_spec.specs.Species.{of_species}
use Rattle.crystal.proofs.rarest.count_of.Given as goal

-- those so far and those that are left are all
abbrev pub invariant-loop-i : goal.invariant-loop-i
invariant-loop-i l = record {
  counted : l.count + length (of_species l.species (drop l.i l.cell.atoms)) ≡ length (of_species l.species l.cell.atoms);
  at_most : l.count ≤ l.i;
}
