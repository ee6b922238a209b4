use Rattle.std.proofs.Common.{◌*◌, ◌^◌, take}
use Rattle.lists.specs.Increasing.{IsMember}
use Rattle.crystal_spec.specs.Matrices.{image}
use Rattle.crystal_spec.specs.Crystals.{Atom}
use Rattle.matrix3.specs.Bounds.{CoordinatesAtMost}
use Rattle.standard_cell.proofs.limits.are_moments.Given as goal

-- the moments so far are small
abbrev pub invariant-loop-i : goal.invariant-loop-i
invariant-loop-i l = (a : Atom) → IsMember a (take l.i l.cell.atoms) → CoordinatesAtMost (2 * 10 ^ 27) (image l.turn a.moment)
