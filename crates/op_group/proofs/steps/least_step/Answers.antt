use Rattle.std.proofs.Common.{◌+◌, ◌<◌, ◌≤◌, ℕ, List, drop, sym, subst, rules}
use Rattle.std.proofs.lemmas.Bool.Decides.{nat_tests}
use Rattle.lists.proofs.Walks.{drop_at}
use Rattle.lists.proofs.Members.{member_at}
use Rattle.crystal_spec.specs.Operations.{Operation}
use Rattle.op_group.specs.Views.{operation_of}
use Rattle.positions.specs.Positions.{triple_of}
use Rattle.op_group.proofs.LeastSteps.{IsLeastSoFar, least_at_first, least_kept, least_taken, less_as_integers, not_less_as_integers}
use Rattle.op_group.proofs.steps.least_step.Goals.{then-is_step+then-along, else-is_step, else-is_step-via-then-is_step+else-along, else-is_step-via-else-is_step}
use Rattle.op_group.proofs.steps.least_step.Goals as goal

pub loop-i-init : goal.loop-i-init
loop-i-init c =
    least_at_first c.args.list.now.n c.args.list.now.operations c.args.axis _ c.count-i-end.ensures.within_cell c.requires.closed (search rules)

pub loop-i-preserved : goal.loop-i-preserved
loop-i-preserved c =
    let n = c.args.list.now.n in
    let os = c.args.list.now.operations in
    let rest = drop (c.loop-i.i + 1) os in
    let x = operation_of c.at-op.result.now in
    let t = triple_of c.loop-i.least in
    let h = subst (λ (r : List Operation). IsLeastSoFar n os r c.args.axis t) (drop_at os c.loop-i.i x c.at-op.ensures) c.loop-i.invariant in
    elim c.if-is_step.branch [
      | then-is_step+then-along w ↦
          let less : w.along.result < w.along-then-is_step.result = search (rules, nat_tests) in
          subst (λ (ts : List ℕ). IsLeastSoFar n os rest c.args.axis (triple_of ts)) (sym w.least-is)
          (least_taken n os rest c.args.axis t x h c.count-i-end.ensures.within_cell c.requires.closed (member_at os c.loop-i.i x c.at-op.ensures)
          (c.is_step.ensures.0 w.if-is_step.true) (less_as_integers _ _ _ _ w.along.ensures w.along-then-is_step.ensures less))
      | else-is_step w ↦
          subst (λ (ts : List ℕ). IsLeastSoFar n os rest c.args.axis (triple_of ts)) (sym w.least-is)
          (least_kept n os rest c.args.axis t x h (elim w.else-is_step.branch [
            | else-is_step-via-then-is_step+else-along v ↦ λ s.
                let no_less : v.along-then-is_step.result ≤ v.along.result = search (rules, nat_tests) in
                not_less_as_integers _ _ _ _ v.along.ensures v.along-then-is_step.ensures no_less
            | else-is_step-via-else-is_step v ↦ λ s. absurd (let yes = c.is_step.ensures.1 s in cc (yes, v.if-is_step.false))
          ]))
    ]
