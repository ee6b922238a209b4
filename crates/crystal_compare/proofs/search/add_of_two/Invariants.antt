use Rattle.std.specs.Prelude.{◌↔◌, ◌⊎◌, ℕ}
use Rattle.lists.specs.Increasing.{IsMember}
use Rattle.lists.specs.Any.{AnyBelow}
use Rattle.crystal_spec.specs.Operations.{Operation}
use Rattle.lattice_iso.specs.Columns.{candidate}
use Rattle.matrix3.specs.Matrices.{of_columns}
use Rattle.crystal_compare.specs.Search.{IsMapBy}
use Rattle.crystal_compare.proofs.search.add_of_two.Given as goal

-- found so far: those that were there, and exactly those of the third columns so far
abbrev pub invariant-loop-number : goal.invariant-loop-number
invariant-loop-number l = (o : Operation) → IsMember o l.found ↔ (AnyBelow l.number (λ (k : ℕ). IsMapBy l.one l.other (of_columns l.a l.b (candidate k)) o) ⊎ IsMember o l.initial.found)
