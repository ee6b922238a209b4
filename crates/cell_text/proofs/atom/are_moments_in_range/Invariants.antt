use Rattle.std.proofs.Common.{◌≡◌, drop, map}
use Rattle.std.specs.List.{list_all}
use Rattle.plain_text.specs.NumberWords.{scaled}
use Rattle.cell_text.specs.Entries.{moments, is_billion}
use Rattle.cell_text.specs.Views.{atom_view}
use Rattle.cell_text.proofs.atom.are_moments_in_range.Given as goal

abbrev pub invariant-loop-a : goal.invariant-loop-a
invariant-loop-a l = list_all (λ m. is_billion (scaled l.k m)) (moments (map atom_view (drop l.a-index l.atoms))) ≡ list_all (λ m. is_billion (scaled l.k m)) (moments (map atom_view l.atoms))
