use Rattle.std.specs.Prelude.{◌↔◌}
use Rattle.lists.specs.Increasing.{IsMember}
use Rattle.crystal_spec.specs.Matrices.{Triple}
use Rattle.lattice_iso.proofs.Candidates.{IsFoundBelow}
use Rattle.lattice_iso.proofs.columns.columns_of_length.Given as goal

-- found so far: exactly those of this length among the candidates so far
abbrev pub invariant-loop-number : goal.invariant-loop-number
invariant-loop-number l = (v : Triple) → IsMember v l.columns.items ↔ IsFoundBelow l.g l.length l.number v
