use Rattle.std.specs.Prelude.{◌≡◌, ◌↔◌}
use Rattle.lists.specs.Increasing.{IsMember}
use Rattle.crystal_spec.specs.Operations.{Operation}
use Rattle.prim_cell.specs.Candidates.{IsFromAtoms}
use Rattle.prim_cell.proofs.translation.pure_shifts.Given as goal

-- found so far: exactly those onto the atoms so far
abbrev pub invariant-loop-onto : goal.invariant-loop-onto
invariant-loop-onto l = record {
  n : l.found.n ≡ l.places.n;
  members : (o : Operation) → IsMember o l.found.operations ↔ IsFromAtoms l.places l.from l.onto o;
}
