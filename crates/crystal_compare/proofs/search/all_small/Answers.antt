use Rattle.std.proofs.Common.{◌≡◌, List, length, subst, sym, ap, ◌∙◌, rules}
use Rattle.std.specs.Prelude.{◌↔◌}
use Rattle.lists.specs.Increasing.{IsMember}
use Rattle.crystal_spec.specs.Crystals.{Structure}
use Rattle.crystal_spec.specs.Operations.{Operation}
use Rattle.crystal.specs.Cells.{IsCellWithinLimits}
use Rattle.crystal_compare.specs.Search.{IsSmallMap}
use Rattle.crystal_compare.proofs.Finding.{by_columns_all, no_map_of_kinds, no_map_of_counts}
use Rattle.crystal_compare.proofs.Listing.{if_ok_more}
use Rattle.crystal_compare.proofs.search.all_small.Goals as goal
use Rattle.crystal_compare.proofs.search.all_small.Goals.{then-ne-via-then-ne, then-ne-via-else-ne+then-count}

pub returns-then-ne : goal.returns-then-ne
returns-then-ne c o =
    let one = c.args.one.now in
    let s = c.args.other.now in
    let same = c.cell-cell.ensures in
    subst (λ (l : List Operation). IsMember o l ↔ IsSmallMap one s o) (sym c.new.ensures)
    (elim c.then-ne.branch [
      | then-ne-via-then-ne w ↦
          let other : c.kind.result ≡ c.kind-2.result → ⊥ = search rules in
          no_map_of_kinds one s o (λ e. other (c.kind.ensures ∙ e ∙ sym (c.kind-2.ensures ∙ ap (λ (t : Structure). t.kind) same)))
      | then-ne-via-else-ne+then-count w ↦
          let other : w.count.result ≡ w.count-else-ne.result → ⊥ = search rules in
          no_map_of_counts one s o c.invariant.ensures.form (subst IsCellWithinLimits same c.invariant-2.ensures.form) (λ e. other (w.count.ensures.value ∙ e ∙ sym (w.count-else-ne.ensures.value ∙ ap (λ (t : Structure). length t.atoms) same)))
    ])

pub returns : goal.returns
returns c = if_ok_more c.all_of_kind.result (λ list h o. by_columns_all c.args.one.now c.args.other.now o _ (h o)) c.all_of_kind.ensures
