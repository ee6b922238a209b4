use Rattle.std.proofs.Common.{drop}
use Rattle.std.specs.Prelude.{◌≡◌, ◌↔◌, ◌⊎◌, ◌+◌, ◌*◌, ◌≤◌, length}
use Rattle.lists.specs.Increasing.{IsMember}
use Rattle.crystal_spec.specs.Operations.{Operation}
use Rattle.crystal.specs.Views.{atom_of}
use Rattle.crystal_spec.specs.Species.{of_species}
use Rattle.mag_ops.specs.Candidates.{IsFromAtoms}
use Rattle.mag_ops.specs.Groups.{signs}
use Rattle.mag_ops.proofs.full.add_kept_by.Given as goal

-- found so far: those that were there, and exactly those of the atoms so far; what is left to test is for the atoms that are
-- left of the species
abbrev pub invariant-loop-i : goal.invariant-loop-i
invariant-loop-i g l = record {
  n : l.found.n ≡ l.places.n;
  members : (o : Operation) → IsMember o l.found.operations ↔ (IsFromAtoms l.places l.time l.action.matrix (atom_of l.from) l.i o ⊎ IsMember o l.initial.found.operations);
  at_most : l.steps + signs l.time * length (of_species l.from.species (drop l.i l.places.atoms)) ≤ l.initial.steps + signs l.time * length (of_species l.from.species l.places.atoms);
  at_least : length l.found.operations + l.initial.steps ≤ length l.initial.found.operations + l.steps;
}
