use Rattle.std.proofs.Common.{drop}
use Rattle.std.specs.Prelude.{◌≡◌, ◌↔◌, ◌+◌, ◌*◌, ◌≤◌, length}
use Rattle.lists.specs.Increasing.{IsMember}
use Rattle.crystal_spec.specs.Operations.{Operation}
use Rattle.crystal_spec.specs.Species.{of_species}
use Rattle.mag_ops.specs.Candidates.{IsFoundBelow}
use Rattle.mag_ops.specs.Groups.{signs}
use Rattle.mag_ops.proofs.full.all_kept.Given as goal

-- found so far: exactly those of the matrices so far; what is left to test is for the matrices that are left
abbrev pub invariant-loop-i : goal.invariant-loop-i
invariant-loop-i g l = record {
  n : l.found.n ≡ l.places.n;
  members : (o : Operation) → IsMember o l.found.operations ↔ IsFoundBelow l.places l.time l.matrices l.i o;
  at_most : l.steps + signs l.time * (length (drop l.i l.matrices) * length (of_species l.from.species l.places.atoms)) ≤ l.initial.steps + signs l.time * (length l.matrices * length (of_species l.from.species l.places.atoms));
  at_least : length l.found.operations + l.initial.steps ≤ l.steps;
}
