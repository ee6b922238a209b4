use Rattle.std.proofs.Common.{ℕ, ◌≤◌, ◌^◌, sym, subst}
use Rattle.std.proofs.lemmas.Result.{IfOk-weaker}
use Rattle.crystal.specs.Cells.{IsCellWithinLimits}
use Rattle.crystal_spec.specs.Crystals.{Structure}
use Rattle.answers.proofs.identify.answer_identify.Goals as goal

-- all operations of a primitive cell in a Niggli-reduced basis
pub maps_of-requires : goal.maps_of-requires
maps_of-requires g c =
    let p = c.in_ok-found.found.made in
    let h = c.in_ok-found.ensures in
    let form : IsCellWithinLimits p.cell = subst (λ (t : Structure). IsCellWithinLimits t) c.cell.ensures c.invariant.ensures.form in
    record {
      group = h.group;
      primitive = h.primitive;
      small = h.small;
      n = subst (λ (n : ℕ). n ≤ 10 ^ 6) (sym h.found.n) form.n_at_most;
    }

pub returns : goal.returns
returns g c = IfOk-weaker c.answer_of_maps.result _ _ (λ answer h. h c.args.cell.now c.in_ok-found.ensures.found) c.answer_of_maps.ensures
