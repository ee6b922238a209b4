use Rattle.std.specs.Prelude.{◌≡◌, ◌<◌, length, slice_get, Some}
use Rattle.crystal_spec.specs.Crystals.{Atom}
use Rattle.crystal_spec.proofs.Species.{IsLeastSoFar}
use Rattle.crystal.proofs.cell.Cell.rarest.Given as goal

-- the atom is of the rarest species of those so far
abbrev pub invariant-loop-i : goal.invariant-loop-i
invariant-loop-i l = record {
  below : l.rarest < length l.self.atoms;
  least : (a : Atom) → slice_get l.self.atoms l.rarest ≡ Some a → IsLeastSoFar l.self l.i l.least a;
}
