use Rattle.std.proofs.Common.{◌≡◌, List, map, subst, sym, ◌∙◌}
use Rattle.std.specs.Prelude.{◌↔◌}
use Rattle.lists.specs.Increasing.{IsIncreasing, IsMember}
use Rattle.crystal_spec.specs.Crystals.{Structure}
use Rattle.crystal_spec.specs.Operations.{Operation}
use Rattle.crystal.specs.Cells.{IsCellWithinLimits}
use Rattle.crystal_compare.specs.Maps.{AffineMap}
use Rattle.crystal_compare.specs.AnyMaps.{IsListedIn}
use Rattle.crystal_compare.specs.Groups.{HaveGroupsAlike}
use Rattle.crystal_compare.specs.Lists.{map_of, map_order, ListsMaps}
use Rattle.crystal_compare.specs.Search.{steps, shifted, IsSmallMap}
use Rattle.crystal_compare.proofs.Carried.{ArePrimitive}
use Rattle.crystal_compare.proofs.Listing.{increasing_in_cells, lists_maps, misses_nothing, maps_alike}
use Rattle.crystal_compare.proofs.list.all_maps.Goals as goal

pub invariant_of-result : goal.invariant_of-result
invariant_of-result c = subst (IsIncreasing map_order) (sym c.in_ok-items.ensures) (increasing_in_cells c.cell-first.result.now c.cell-second.result.now c.in_ok-found.found c.invariant-3.ensures.form c.invariant-4.ensures.form c.count-found.ensures.ordered)

pub returns-clause-exact : goal.returns-clause-exact
returns-clause-exact c =
    let a = c.args.one.now.cell in
    let b = c.args.other.now.cell in
    let e = c.cell-first.ensures in
    let f = c.cell-second.ensures in
    let os = c.in_ok-found.found in
    let is : map map_of c.in_ok-items.items.items ≡ map (shifted (steps a b)) os = c.in_ok-items.ensures ∙ (λ i. map (shifted (steps (e i) (f i))) os) in
    let found = subst (λ (y : Structure). (o : Operation) → IsMember o os ↔ IsSmallMap a y o) (c.in_ok-places.ensures ∙ f) (subst (λ (x : Structure). (o : Operation) → IsMember o os ↔ IsSmallMap x c.in_ok-places.places o) e c.in_ok-found.ensures) in
    let p = c.invariant.ensures.form in
    let q = c.invariant-2.ensures.form in
    subst (ListsMaps a b) (sym is) (lists_maps a b (record { cell = subst IsCellWithinLimits e c.invariant-3.ensures.form; cell' = subst IsCellWithinLimits f c.invariant-4.ensures.form; primitive = p.primitive; primitive' = q.primitive }) p.niggli q.niggli os found c.count-found.ensures.ordered)

pub returns-clause-nothing_missed : goal.returns-clause-nothing_missed
returns-clause-nothing_missed c m t d sign h =
    let a = c.args.one.now.cell in
    let b = c.args.other.now.cell in
    let e = c.cell-first.ensures in
    let f = c.cell-second.ensures in
    let os = c.in_ok-found.found in
    let is : map map_of c.in_ok-items.items.items ≡ map (shifted (steps a b)) os = c.in_ok-items.ensures ∙ (λ i. map (shifted (steps (e i) (f i))) os) in
    let found = subst (λ (y : Structure). (o : Operation) → IsMember o os ↔ IsSmallMap a y o) (c.in_ok-places.ensures ∙ f) (subst (λ (x : Structure). (o : Operation) → IsMember o os ↔ IsSmallMap x c.in_ok-places.places o) e c.in_ok-found.ensures) in
    let p = c.invariant.ensures.form in
    let q = c.invariant-2.ensures.form in
    subst (λ (l : List AffineMap). IsListedIn l m t d sign) (sym is) (misses_nothing a b (record { cell = subst IsCellWithinLimits e c.invariant-3.ensures.form; cell' = subst IsCellWithinLimits f c.invariant-4.ensures.form; primitive = p.primitive; primitive' = q.primitive }) p.niggli q.niggli os found m t d sign h)

pub returns-clause-groups : goal.returns-clause-groups
returns-clause-groups c x m =
    let a = c.args.one.now.cell in
    let b = c.args.other.now.cell in
    let e = c.cell-first.ensures in
    let f = c.cell-second.ensures in
    let os = c.in_ok-found.found in
    let is : map map_of c.in_ok-items.items.items ≡ map (shifted (steps a b)) os = c.in_ok-items.ensures ∙ (λ i. map (shifted (steps (e i) (f i))) os) in
    let found = subst (λ (y : Structure). (o : Operation) → IsMember o os ↔ IsSmallMap a y o) (c.in_ok-places.ensures ∙ f) (subst (λ (x : Structure). (o : Operation) → IsMember o os ↔ IsSmallMap x c.in_ok-places.places o) e c.in_ok-found.ensures) in
    let p = c.invariant.ensures.form in
    let q = c.invariant-2.ensures.form in
    let both : ArePrimitive a b = record { cell = subst IsCellWithinLimits e c.invariant-3.ensures.form; cell' = subst IsCellWithinLimits f c.invariant-4.ensures.form; primitive = p.primitive; primitive' = q.primitive } in
    subst (HaveGroupsAlike a b) (sym is) (maps_alike a b both p.niggli q.niggli os found c.count-found.ensures.ordered x (subst (IsMember x) is m))
