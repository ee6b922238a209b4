use Rattle.std.proofs.Common.{ℕ, ◌<◌, List, length, subst, sym}
use Rattle.lists.specs.Increasing.{IsMember}
use Rattle.crystal_spec.specs.Crystals.{Structure}
use Rattle.crystal.specs.declared.limits.TheConstants.{MOST_NAMES}
use Rattle.crystal.specs.Cells.{IsCellWithinLimits}
use Rattle.crystal.specs.CellFields.{structure_of}
use Rattle.crystal.proofs.CellLemmas.{name_more}
use Rattle.crystal.proofs.cell.Cell.add_name.Goals as goal

pub invariant_of-self-2 : goal.invariant_of-self-2
invariant_of-self-2 c =
    let s = structure_of c.self.inside in
    subst (λ (xs : List (List ℕ)). IsCellWithinLimits (record s { names = xs })) (sym c.in_ok-push.ensures.items)
    (name_more s c.args.name c.self.invariant (subst (λ (t : Structure). IsMember c.args.name t.names → ⊥) (sym c.self.view_is) c.requires.new)
    (subst (λ (t : Structure). length t.names < MOST_NAMES) (sym c.self.view_is) c.requires.fewer))
