use Rattle.std.specs.Prelude.{◌↔◌, ℕ}
use Rattle.lists.specs.Increasing.{IsMember}
use Rattle.lists.specs.Any.{AnyBelow}
use Rattle.crystal_spec.specs.Operations.{Operation}
use Rattle.lattice_iso.specs.Columns.{candidate}
use Rattle.crystal_compare.specs.Search.{IsMapOfOne}
use Rattle.crystal_compare.proofs.search.all_of_kind.Given as goal

-- found so far: exactly those of the first columns so far
abbrev pub invariant-loop-number : goal.invariant-loop-number
invariant-loop-number l = (o : Operation) → IsMember o l.found ↔ AnyBelow l.number (λ (k : ℕ). IsMapOfOne l.one l.other (candidate k) o)
