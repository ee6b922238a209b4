use Rattle.std.proofs.Common.{pos, List, sym, subst}
use Rattle.lists.specs.Increasing.{IsMember}
use Rattle.crystal_spec.specs.Operations.{Operation}
use Rattle.match_spec.specs.FirstMap.{IsNone}
use Rattle.group_match.specs.Tasks.{IsTask}
use Rattle.group_match.proofs.Outcomes.{of_true}
use Rattle.group_match.proofs.KindLemmas.{other_number}
use Rattle.group_match.proofs.search.compared_map.Goals as goal

pub differ_in_kinds-requires-clause-small : goal.differ_in_kinds-requires-clause-small
differ_in_kinds-requires-clause-small c s hs = (c.requires.sources.inner s hs).small

pub differ_in_kinds-requires-clause-members : goal.differ_in_kinds-requires-clause-members
differ_in_kinds-requires-clause-members c o ho =
    c.requires.task.small o (subst (λ (os : List Operation). IsMember o os) c.ops-ops.ensures ho)

pub returns-then-branch-clause-absent : goal.returns-then-branch-clause-absent
returns-then-branch-clause-absent c =
    let h = c.args.symbol.now.operations in
    let n = c.args.found.now.n in
    let s = c.args.back.now in
    let r = c.requires in
    subst (λ (os : List Operation). IsNone s h (pos n) os) c.ops-ops.ensures
    (other_number h n c.ops-ops.result.now s c.args.sources.now (subst (IsTask h n) (sym c.ops-ops.ensures) r.task) r.step r.sources (of_true _ c.in_ok-differ_in_kinds.ensures c.if-branch.true))
