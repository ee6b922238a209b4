use Rattle.std.proofs.Common.{◌≡◌, sym, ap, subst, ◌∙◌, ℕ, ◌+◌, length, arith}
use Rattle.crystal_spec.specs.Crystals.{Structure}
use Rattle.crystal.specs.Cells.{IsCellWithinLimits}
use Rattle.basis_spec.specs.Bases.{SameCrystal}
use Rattle.site_orbits.specs.Entries.{HaveOrbits, AreFirstsBelow}
use Rattle.site_orbits.proofs.Making.{alike_equivalence, alike_species, orbits_more, no_orbits, firsts_below}
use Rattle.std.proofs.lemmas.List.{length_push}
use Rattle.site_orbits.proofs.equivalent.orbits.Goals as goal

pub loop-i-init : goal.loop-i-init
loop-i-init c = record {
  long = ap length c.new-entries.ensures.items;
  orbits = no_orbits c.args.cell.now c.args.prim.now.back c.args.prim.now.cell c.args.list.now.operations c.new-entries.result.items c.new-entries.ensures.items;
}

pub loop-i-preserved : goal.loop-i-preserved
loop-i-preserved c =
    let h = c.loop-i.invariant in
    let items = c.in_ok-push.ensures.items in
    record {
      long = ap length items ∙ length_push c.loop-i.entries.items _ ∙ ap (λ (k : ℕ). k + 1) h.long;
      orbits = orbits_more c.args.cell.now c.args.prim.now.back c.args.prim.now.cell c.args.list.now.operations c.loop-i.i c.loop-i.entries.items c.push.new.self.items c.in_ok-orbit_of.field-0 items h.long c.in_ok-orbit_of.ensures h.orbits;
    }

pub returns-clause-count : goal.returns-clause-count
returns-clause-count c =
    let ended : c.loop-i.i ≡ length c.args.cell.now.atoms = omega arith in
    ap length c.new.ensures ∙ c.loop-i.invariant.long ∙ ended

pub returns-clause-firsts : goal.returns-clause-firsts
returns-clause-firsts c =
    let ended : c.loop-i.i ≡ length c.args.cell.now.atoms = omega arith in
    subst AreFirstsBelow (sym c.new.ensures) (firsts_below c.args.cell.now c.args.prim.now.back c.args.prim.now.cell c.args.list.now.operations c.loop-i.entries.items (c.loop-i.invariant.long ∙ ended) c.loop-i.invariant.orbits)

pub returns-clause-exact : goal.returns-clause-exact
returns-clause-exact c = subst (HaveOrbits c.args.cell.now c.args.prim.now.back c.args.prim.now.cell c.args.list.now.operations) (sym c.new.ensures) c.loop-i.invariant.orbits

pub returns-in_err-orbit_of-clause-equivalence : goal.returns-in_err-orbit_of-clause-equivalence
returns-in_err-orbit_of-clause-equivalence c =
    let s = c.args.cell.now in
    let b = c.args.prim.now.cell in
    let r = c.args.prim.now.back in
    let same : SameCrystal s b r = subst (λ (t : Structure). SameCrystal s t r) c.requires.same_cell c.requires.primitive.same in
    alike_equivalence s b r c.args.list.now.operations c.count-i-end.ensures.cell (subst (λ (t : Structure). IsCellWithinLimits t) c.cell.ensures c.invariant.ensures.form) same c.requires.group

pub returns-in_err-orbit_of-clause-one_species : goal.returns-in_err-orbit_of-clause-one_species
returns-in_err-orbit_of-clause-one_species c =
    let s = c.args.cell.now in
    let b = c.args.prim.now.cell in
    let r = c.args.prim.now.back in
    let same : SameCrystal s b r = subst (λ (t : Structure). SameCrystal s t r) c.requires.same_cell c.requires.primitive.same in
    alike_species s b r c.args.list.now.operations c.count-i-end.ensures.cell (subst (λ (t : Structure). IsCellWithinLimits t) c.cell.ensures c.invariant.ensures.form) same c.requires.group

pub returns-in_err-push-clause-equivalence : goal.returns-in_err-push-clause-equivalence
returns-in_err-push-clause-equivalence c =
    let s = c.args.cell.now in
    let b = c.args.prim.now.cell in
    let r = c.args.prim.now.back in
    let same : SameCrystal s b r = subst (λ (t : Structure). SameCrystal s t r) c.requires.same_cell c.requires.primitive.same in
    alike_equivalence s b r c.args.list.now.operations c.count-i-end.ensures.cell (subst (λ (t : Structure). IsCellWithinLimits t) c.cell.ensures c.invariant.ensures.form) same c.requires.group

pub returns-in_err-push-clause-one_species : goal.returns-in_err-push-clause-one_species
returns-in_err-push-clause-one_species c =
    let s = c.args.cell.now in
    let b = c.args.prim.now.cell in
    let r = c.args.prim.now.back in
    let same : SameCrystal s b r = subst (λ (t : Structure). SameCrystal s t r) c.requires.same_cell c.requires.primitive.same in
    alike_species s b r c.args.list.now.operations c.count-i-end.ensures.cell (subst (λ (t : Structure). IsCellWithinLimits t) c.cell.ensures c.invariant.ensures.form) same c.requires.group

pub returns-clause-equivalence : goal.returns-clause-equivalence
returns-clause-equivalence c =
    let s = c.args.cell.now in
    let b = c.args.prim.now.cell in
    let r = c.args.prim.now.back in
    let same : SameCrystal s b r = subst (λ (t : Structure). SameCrystal s t r) c.requires.same_cell c.requires.primitive.same in
    alike_equivalence s b r c.args.list.now.operations c.count-i-end.ensures.cell (subst (λ (t : Structure). IsCellWithinLimits t) c.cell.ensures c.invariant.ensures.form) same c.requires.group

pub returns-clause-one_species : goal.returns-clause-one_species
returns-clause-one_species c =
    let s = c.args.cell.now in
    let b = c.args.prim.now.cell in
    let r = c.args.prim.now.back in
    let same : SameCrystal s b r = subst (λ (t : Structure). SameCrystal s t r) c.requires.same_cell c.requires.primitive.same in
    alike_species s b r c.args.list.now.operations c.count-i-end.ensures.cell (subst (λ (t : Structure). IsCellWithinLimits t) c.cell.ensures c.invariant.ensures.form) same c.requires.group
