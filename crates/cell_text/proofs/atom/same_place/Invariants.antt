use Rattle.std.proofs.Common.{◌≡◌, ◌+◌, drop, map, length}
use Rattle.cell_text.specs.Rules.{same_place_from, same_place}
use Rattle.cell_text.specs.Views.{atom_view}
use Rattle.cell_text.proofs.atom.same_place.Given as goal

abbrev pub invariant-loop-i : goal.invariant-loop-i
invariant-loop-i l = same_place_from (l.i + 1) (length l.atoms + 1) (map atom_view (drop l.i l.atoms)) (atom_view l.b) ≡ same_place (map atom_view l.atoms) (atom_view l.b)
