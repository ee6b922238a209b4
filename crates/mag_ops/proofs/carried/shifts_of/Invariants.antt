use Rattle.std.proofs.Common.{◌≡◌, take, map}
use Rattle.std.specs.Prelude.{◌↔◌, ◌⊎◌}
use Rattle.lists.specs.Increasing.{IsMember}
use Rattle.lists.specs.Any.{AnyOf}
use Rattle.crystal_spec.specs.Matrices.{Triple, sum_of}
use Rattle.positions.specs.Positions.{modulo, triple_of}
use Rattle.mag_ops.proofs.carried.shifts_of.Given as goal

-- exactly the sums with the pure translations so far
abbrev pub invariant-loop-pure : goal.invariant-loop-pure
invariant-loop-pure l =
    (t : Triple) → IsMember t (map triple_of l.shifts.items) ↔ (AnyOf (take l.pure-index l.pure_translations) (λ x. t ≡ modulo l.n (sum_of l.start (triple_of x.shift))) ⊎ ⊥)
