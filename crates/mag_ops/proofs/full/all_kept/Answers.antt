use Rattle.std.proofs.Common.{◌≡◌, ℕ, ◌⊎◌, ◌+◌, ◌*◌, ◌≤◌, drop, length, subst, sym, lit≤, arith}
use Rattle.lists.specs.Increasing.{IsMember}
use Rattle.lists.proofs.Members.{member_at}
use Rattle.crystal_spec.specs.Matrices.{Matrix}
use Rattle.matrix3.specs.Bounds.{EntriesAtMost}
use Rattle.std.specs.Prelude.{◌↔◌}
use Rattle.crystal_spec.specs.Crystals.{Structure}
use Rattle.crystal_spec.specs.Operations.{Operation}
use Rattle.crystal_spec.specs.Species.{of_species, IsRarest}
use Rattle.crystal.specs.Views.{atom_of}
use Rattle.mag_ops.specs.Candidates.{IsKeptBy, IsFoundBelow}
use Rattle.mag_ops.specs.Groups.{signs}
use Rattle.matrix3.proofs.FitsBySize.{entries_grown}
use Rattle.mag_ops.proofs.KeptMaps.{found_more, found_all}
use Rattle.mag_ops.proofs.Counts.{cost_at, tested_more, tested_in_all, listed_from_none}
use Rattle.crystal_spec.proofs.Species.{rarest_once}
use Rattle.mag_ops.proofs.full.all_kept.Goals as goal

pub add_kept_by-requires-clause-small : goal.add_kept_by-requires-clause-small
add_kept_by-requires-clause-small g c = subst (EntriesAtMost 1) (sym c.action-action.ensures.matrix) (c.requires.small c.at.result.now (member_at c.args.matrices.now c.loop-i.i c.at.result.now c.at.ensures))

-- each matrix of the list is a small isometry
pub action-action-requires-clause-map : goal.action-action-requires-clause-map
action-action-requires-clause-map g c = entries_grown (lit≤ tt) (c.requires.small c.at.result.now (member_at c.args.matrices.now c.loop-i.i c.at.result.now c.at.ensures))

pub action-action-requires-clause-isometry : goal.action-action-requires-clause-isometry
action-action-requires-clause-isometry g c = (c.requires.isometries.exact c.at.result.now).0 (member_at c.args.matrices.now c.loop-i.i c.at.result.now c.at.ensures)

-- the atom of a rarest species is one of the cell
pub add_kept_by-requires-clause-of_cell : goal.add_kept_by-requires-clause-of_cell
add_kept_by-requires-clause-of_cell g c =
    subst (λ (t : Structure). IsMember (atom_of c.atom-from.result.now) t.atoms) c.cell-cell.ensures (member_at c.cell-cell.result.now.atoms c.rarest.result (atom_of c.atom-from.result.now) c.atom-from.ensures.value)

pub returns-clause-ticks_at_most : goal.returns-clause-ticks_at_most
returns-clause-ticks_at_most g c count rarest =
    let s = c.args.places.now in
    let ws = c.args.matrices.now in
    let cost = length (of_species c.atom-from.result.now.species s.atoms) in
    let least = subst (λ (t : Structure). IsRarest t (length (of_species c.atom-from.result.now.species t.atoms))) c.cell-cell.ensures (c.rarest.ensures.rarest (atom_of c.atom-from.result.now) c.atom-from.ensures.value) in
    subst (λ (k : ℕ). c.loop-i.steps ≤ c.args.steps.now + signs c.args.time * (length ws * k)) (rarest_once s cost count least rarest)
    (tested_in_all c.args.time c.args.steps.now (length ws * cost) c.loop-i.steps _ c.loop-i.invariant.at_most)

pub returns-in_err-add_kept_by-clause-ticks_at_most : goal.returns-in_err-add_kept_by-clause-ticks_at_most
returns-in_err-add_kept_by-clause-ticks_at_most g c count rarest =
    let s = c.args.places.now in
    let ws = c.args.matrices.now in
    let cost = length (of_species c.atom-from.result.now.species s.atoms) in
    let least = subst (λ (t : Structure). IsRarest t (length (of_species c.atom-from.result.now.species t.atoms))) c.cell-cell.ensures (c.rarest.ensures.rarest (atom_of c.atom-from.result.now) c.atom-from.ensures.value) in
    let rest = tested_more c.args.time c.args.steps.now (length ws * cost) c.loop-i.steps c.add_kept_by.new.steps (length (drop c.loop-i.i ws) * cost) (length (drop (c.loop-i.i + 1) ws) * cost) cost (cost_at ws c.loop-i.i c.at.result.now cost c.at.ensures) c.loop-i.invariant.at_most c.in_err-add_kept_by.ensures.ticks_at_most in
    subst (λ (k : ℕ). c.add_kept_by.new.steps ≤ c.args.steps.now + signs c.args.time * (length ws * k)) (rarest_once s cost count least rarest)
    (tested_in_all c.args.time c.args.steps.now (length ws * cost) c.add_kept_by.new.steps _ rest)

pub loop-i-preserved : goal.loop-i-preserved
loop-i-preserved g c =
    let s = c.args.places.now in
    let ws = c.args.matrices.now in
    let cost = length (of_species c.atom-from.result.now.species s.atoms) in
    let h = c.loop-i.invariant in
    let e = c.in_ok-add_kept_by.ensures in
    record {
      n = e.n;
      members = λ o. found_more s c.args.time ws c.at.result.now c.loop-i.i o _ _ c.at.ensures (h.members o)
          (subst (λ (w : Matrix). IsMember o c.add_kept_by.new.found.operations ↔ (IsKeptBy s c.args.time w o ⊎ IsMember o c.loop-i.found.operations)) c.action-action.ensures.matrix (e.members o));
      at_most = tested_more c.args.time c.args.steps.now (length ws * cost) c.loop-i.steps c.add_kept_by.new.steps (length (drop c.loop-i.i ws) * cost) (length (drop (c.loop-i.i + 1) ws) * cost) cost (cost_at ws c.loop-i.i c.at.result.now cost c.at.ensures) h.at_most e.ticks_at_most;
      at_least = listed_from_none c.args.steps.now (length c.loop-i.found.operations) c.loop-i.steps (length c.add_kept_by.new.found.operations) c.add_kept_by.new.steps h.at_least e.ticks_at_least;
    }

pub returns-clause-exact : goal.returns-clause-exact
returns-clause-exact g c =
    let s = c.args.places.now in
    let ws = c.args.matrices.now in
    let ended : c.loop-i.i ≡ length ws = omega arith in
    found_all s c.args.time ws c.loop-i.found.operations c.requires.isometries c.invariant.ensures.ordered
    (subst (λ (k : ℕ). (o : Operation) → IsMember o c.loop-i.found.operations ↔ IsFoundBelow s c.args.time ws k o) ended c.loop-i.invariant.members)
