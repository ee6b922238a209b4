use Rattle.std.proofs.Common.{◌≤◌, ◌+◌, ◌⊎◌, List, length, subst, sym, rules}
use Rattle.std.specs.Prelude.{◌↔◌}
use Rattle.lists.specs.Increasing.{IsMember}
use Rattle.lists.proofs.Increasing.{length-inserted}
use Rattle.crystal_spec.specs.Matrices.{Matrix}
use Rattle.crystal_spec.specs.Crystals.{Keeps}
use Rattle.crystal_spec.specs.Operations.{Operation, sign_factor, compare_of}
use Rattle.positions.specs.Positions.{triple_of}
use Rattle.op_group.specs.Views.{operation_of}
use Rattle.mag_ops.specs.Candidates.{IsKeptAs}
use Rattle.mag_ops.proofs.KeptMaps.{kept_added}
use Rattle.mag_ops.proofs.full.add_kept.Goals as goal

pub returns-in_ok-insert-clause-members : goal.returns-in_ok-insert-clause-members
returns-in_ok-insert-clause-members g c o =
    let keeps : Keeps c.args.places.now c.args.action.now.matrix (triple_of c.args.shift) (sign_factor c.args.sign) = search rules in
    subst (λ (w : Matrix). IsMember o c.insert.new.self.operations ↔ (IsKeptAs c.args.places.now w (triple_of c.args.shift) c.args.sign o ⊎ IsMember o c.args.found.now.operations)) c.matrix-w.ensures
    (kept_added c.args.places.now (operation_of (record { w = c.matrix-w.result.now; shift = c.args.shift; sign = c.args.sign })) c.args.found.now.operations c.insert.new.self.operations (subst (λ (w : Matrix). Keeps c.args.places.now w (triple_of c.args.shift) (sign_factor c.args.sign)) (sym c.matrix-w.ensures) keeps) c.in_ok-insert.ensures.value o)

pub returns-in_ok-insert-clause-one_more : goal.returns-in_ok-insert-clause-one_more
returns-in_ok-insert-clause-one_more g c =
    subst (λ (l : List Operation). length l ≤ length c.args.found.now.operations + 1) (sym c.in_ok-insert.ensures.value) (length-inserted compare_of (operation_of (record { w = c.matrix-w.result.now; shift = c.args.shift; sign = c.args.sign })) c.args.found.now.operations)
