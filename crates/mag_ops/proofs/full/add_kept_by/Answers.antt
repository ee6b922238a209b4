use Rattle.std.proofs.Common.{◌≡◌, ℕ, ◌⊎◌, ◌+◌, ◌*◌, ◌≤◌, drop, length, subst, sym, ap, ◌∙◌, arith, rules}
use Rattle.std.specs.Prelude.{◌↔◌, slice_get, Some}
use Rattle.lists.specs.Increasing.{IsMember}
use Rattle.crystal_spec.specs.Crystals.{Structure}
use Rattle.crystal.specs.Views.{atom_of}
use Rattle.op_group.specs.Lists.{OperationList}
use Rattle.crystal_spec.specs.Species.{of_species}
use Rattle.mag_ops.specs.Candidates.{IsFromAtoms}
use Rattle.mag_ops.specs.Groups.{signs}
use Rattle.mag_ops.proofs.KeptMaps.{atoms_more, atoms_same, atoms_all}
use Rattle.mag_ops.proofs.Counts.{tested_one, tested_none, tested_within, listed_more}
use Rattle.crystal_spec.proofs.Species.{of_species_at, of_another_at}
use Rattle.mag_ops.proofs.full.add_kept_by.Goals as goal
use Rattle.mag_ops.proofs.full.add_kept_by.Goals.{then-onto-from+in_ok-add_kept_onto, else-onto-from}

pub returns-in_err-add_kept_onto-clause-ticks_at_most : goal.returns-in_err-add_kept_onto-clause-ticks_at_most
returns-in_err-add_kept_onto-clause-ticks_at_most g c =
    let s = c.args.places.now in
    let onto = atom_of c.atom-onto.result.now in
    let at = subst (λ (t : Structure). slice_get t.atoms c.loop-i.i ≡ Some onto) c.cell-cell.ensures c.atom-onto.ensures.value in
    let same : onto.species ≡ c.args.from.now.species = search rules in
    let left = of_species_at c.args.from.now.species s.atoms c.loop-i.i onto at same in
    let some : 1 ≤ length (of_species c.args.from.now.species (drop c.loop-i.i s.atoms)) = omega (arith, left) in
    tested_within c.args.time c.args.steps.now (length (of_species c.args.from.now.species s.atoms)) c.loop-i.steps c.add_kept_onto.new.steps _ some c.loop-i.invariant.at_most c.add_kept_onto.ensures.ticks_at_most

pub loop-i-preserved : goal.loop-i-preserved
loop-i-preserved g c =
    let s = c.args.places.now in
    let from = atom_of c.args.from.now in
    let onto = atom_of c.atom-onto.result.now in
    let at = subst (λ (t : Structure). slice_get t.atoms c.loop-i.i ≡ Some onto) c.cell-cell.ensures c.atom-onto.ensures.value in
    let h = c.loop-i.invariant in
    elim c.if-onto-from.branch [
      | then-onto-from+in_ok-add_kept_onto w ↦
          let same : onto.species ≡ from.species = search rules in
          let e = w.in_ok-add_kept_onto.ensures in
          record {
            n = ap (λ (l : OperationList). l.n) w.found-is ∙ e.n;
            members = λ o. subst (λ (l : OperationList). IsMember o l.operations ↔ (IsFromAtoms s c.args.time c.args.action.now.matrix from (c.loop-i.i + 1) o ⊎ IsMember o c.args.found.now.operations)) (sym w.found-is)
                (atoms_more s c.args.time c.args.action.now.matrix from c.loop-i.i onto o _ _ _ at same (h.members o) (e.members o));
            at_most = subst (λ (k : ℕ). k + signs c.args.time * length (of_species from.species (drop (c.loop-i.i + 1) s.atoms)) ≤ c.args.steps.now + signs c.args.time * length (of_species from.species s.atoms)) (sym w.steps-is)
                (tested_one c.args.time c.args.steps.now _ c.loop-i.steps w.add_kept_onto.new.steps _ _ (of_species_at from.species s.atoms c.loop-i.i onto at same) h.at_most e.ticks_at_most);
            at_least = subst (λ (l : OperationList). length l.operations + c.args.steps.now ≤ length c.args.found.now.operations + c.if-onto-from.steps) (sym w.found-is)
                (subst (λ (k : ℕ). length w.add_kept_onto.new.found.operations + c.args.steps.now ≤ length c.args.found.now.operations + k) (sym w.steps-is)
                (listed_more (length c.args.found.now.operations) c.args.steps.now (length c.loop-i.found.operations) c.loop-i.steps (length w.add_kept_onto.new.found.operations) w.add_kept_onto.new.steps h.at_least e.ticks_at_least));
          }
      | else-onto-from w ↦
          let other : onto.species ≡ from.species → ⊥ = search rules in
          record {
            n = ap (λ (l : OperationList). l.n) w.found-is ∙ h.n;
            members = λ o. subst (λ (l : OperationList). IsMember o l.operations ↔ (IsFromAtoms s c.args.time c.args.action.now.matrix from (c.loop-i.i + 1) o ⊎ IsMember o c.args.found.now.operations)) (sym w.found-is)
                (atoms_same s c.args.time c.args.action.now.matrix from c.loop-i.i onto o _ _ at other (h.members o));
            at_most = tested_none c.args.time c.args.steps.now _ c.loop-i.steps c.if-onto-from.steps _ _ w.steps-is (of_another_at from.species s.atoms c.loop-i.i onto at other) h.at_most;
            at_least = subst (λ (l : OperationList). length l.operations + c.args.steps.now ≤ length c.args.found.now.operations + c.if-onto-from.steps) (sym w.found-is)
                (subst (λ (k : ℕ). length c.loop-i.found.operations + c.args.steps.now ≤ length c.args.found.now.operations + k) (sym w.steps-is) h.at_least);
          }
    ]

pub returns-clause-members : goal.returns-clause-members
returns-clause-members g c o =
    let s = c.args.places.now in
    let from = atom_of c.args.from.now in
    let all : c.count-i-end.result ≡ length s.atoms = c.count-i-end.ensures.value ∙ ap (λ (t : Structure). length t.atoms) c.cell-cell.ensures in
    let ended : c.loop-i.i ≡ length s.atoms = omega arith in
    atoms_all s c.args.time c.args.action.now.matrix from o _ _ c.requires.of_cell
    (subst (λ (k : ℕ). IsMember o c.loop-i.found.operations ↔ (IsFromAtoms s c.args.time c.args.action.now.matrix from k o ⊎ IsMember o c.args.found.now.operations)) ended (c.loop-i.invariant.members o))
