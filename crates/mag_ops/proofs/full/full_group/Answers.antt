use Rattle.std.proofs.Common.{◌≡◌, ℕ, ◌+◌, ◌*◌, ◌≤◌, List, length, subst, sym, ap, ◌∙◌}
use Rattle.crystal_spec.specs.Matrices.{Matrix}
use Rattle.crystal_spec.specs.Crystals.{Structure}
use Rattle.crystal_spec.specs.Cells.{IsCell}
use Rattle.lattice_iso.specs.Isometries.{ListsIsometries}
use Rattle.crystal_spec.specs.Species.{IsRarest}
use Rattle.mag_ops.specs.Groups.{ListsGroup, signs}
use Rattle.mag_ops.proofs.Counts.{isometries_once}
use Rattle.mag_ops.proofs.FullGroups.{listed_group, listed_primitive, listed_small, if_ok_both}
use Rattle.op_group.specs.Groups.{IsGroupModulo}
use Rattle.mag_ops.proofs.NothingMissed.{if_ok_more, misses_nothing}
use Rattle.mag_ops.proofs.full.full_group.Goals as goal

pub returns-clause-nothing_missed : goal.returns-clause-nothing_missed
returns-clause-nothing_missed g c =
    let s = c.args.prim.now.cell in
    let cell : IsCell s = subst IsCell c.cell-cell.ensures c.invariant-2.ensures.cell in
    let same : c.in_ok-places.places ≡ s = c.in_ok-places.ensures ∙ c.cell-cell.ensures in
    if_ok_more c.all_kept.result (λ list h. misses_nothing s c.args.time list.operations cell c.invariant.ensures.form.primitive (subst (λ (t : Structure). ListsGroup t c.args.time list.operations) same h)) c.all_kept.ensures.exact

pub returns-clause-group : goal.returns-clause-group
returns-clause-group g c =
    let s = c.args.prim.now.cell in
    let cell : IsCell s = subst IsCell c.cell-cell.ensures c.invariant-2.ensures.cell in
    let same : c.in_ok-places.places ≡ s = c.in_ok-places.ensures ∙ c.cell-cell.ensures in
    if_ok_both c.all_kept.result
    (λ list e h. subst (λ (n : ℕ). IsGroupModulo n list.operations) (sym (e ∙ ap (λ (t : Structure). t.n) same))
    (listed_group s c.args.time list.operations cell (subst (λ (t : Structure). ListsGroup t c.args.time list.operations) same h)))
    c.all_kept.ensures.n c.all_kept.ensures.exact

pub returns-clause-primitive : goal.returns-clause-primitive
returns-clause-primitive g c =
    let s = c.args.prim.now.cell in
    let same : c.in_ok-places.places ≡ s = c.in_ok-places.ensures ∙ c.cell-cell.ensures in
    if_ok_more c.all_kept.result (λ list h. listed_primitive s c.args.time list.operations c.invariant.ensures.form.primitive (subst (λ (t : Structure). ListsGroup t c.args.time list.operations) same h)) c.all_kept.ensures.exact

pub returns-clause-small : goal.returns-clause-small
returns-clause-small g c =
    let s = c.args.prim.now.cell in
    let cell : IsCell s = subst IsCell c.cell-cell.ensures c.invariant-2.ensures.cell in
    let same : c.in_ok-places.places ≡ s = c.in_ok-places.ensures ∙ c.cell-cell.ensures in
    if_ok_more c.all_kept.result (λ list h. listed_small s c.args.time list.operations c.invariant.ensures.form.niggli cell.symmetric (subst (λ (t : Structure). ListsGroup t c.args.time list.operations) same h)) c.all_kept.ensures.exact

pub returns-clause-ticks_at_most : goal.returns-clause-ticks_at_most
returns-clause-ticks_at_most g c ws count isometries rarest =
    let s = c.args.prim.now.cell in
    let same : c.in_ok-places.places ≡ s = c.in_ok-places.ensures ∙ c.cell-cell.ensures in
    let metric = c.metric.ensures ∙ ap (λ (t : Structure). t.metric) c.cell-cell.ensures in
    let listed = subst (λ (m : Matrix). ListsIsometries m c.in_ok-matrices.matrices) metric c.in_ok-matrices.ensures.exact in
    subst (λ (vs : List Matrix). c.all_kept.new.steps ≤ c.args.steps.now + signs c.args.time * (length vs * count)) (isometries_once s.metric c.in_ok-matrices.matrices ws listed isometries)
    (c.all_kept.ensures.ticks_at_most count (subst (λ (t : Structure). IsRarest t count) (sym same) rarest))
