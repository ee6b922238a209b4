use Rattle.std.proofs.Common.{◌≡◌, ◌+◌, ◌*◌, ℕ, List, subst, arith}
use Rattle.crystal_spec.specs.Operations.{Operation}
use Rattle.group_match.specs.Matching.{HasNoImage}
use Rattle.group_match.proofs.Outcomes.{of_none, of_false}
use Rattle.group_match.specs.Tasks.{IsNoneBefore}
use Rattle.group_match.proofs.TaskLemmas.{no_image, block_none, none_at_all}
use Rattle.group_match.proofs.search.first_map.Goals.{then-may_match+in_ok-map+in-None, else-may_match}
use Rattle.group_match.proofs.search.first_map.Goals as goal

pub may_match-requires-clause-small : goal.may_match-requires-clause-small
may_match-requires-clause-small c s hs = (c.requires.sources.inner s hs).small

pub loop-block-preserved : goal.loop-block-preserved
loop-block-preserved c =
    let h = c.args.symbol.now.operations in
    let n = c.args.found.now.n in
    let m = c.args.found.now.operations in
    let s = c.args.back.now in
    let ss = c.args.sources.now in
    let b = c.loop-block.block in
    let r = c.requires in
    let next : b * 27 + 27 ≡ (b + 1) * 27 = omega arith in
    elim c.if-may_match.branch [
      | then-may_match+in_ok-map+in-None w ↦ subst (λ (k : ℕ). IsNoneBefore h n m s k) next (of_none w.in_ok-map.field-0 w.in_ok-map.ensures.absent w.in-None.is)
      | else-may_match w ↦ block_none h n m s b c.candidate.result c.candidate.ensures.value c.loop-block.invariant
          (λ q rows iq o io ca. no_image h n m r.task s r.step ss r.sources r.many q iq (subst (λ (os : List Operation). HasNoImage q os ss) c.ops-ops.ensures (of_false _ c.may_match.ensures w.if-may_match.false q rows)) o io ca)
    ]

pub returns-clause-absent : goal.returns-clause-absent
returns-clause-absent c =
    none_at_all c.args.symbol.now.operations c.args.found.now.n c.args.found.now.operations c.args.back.now (c.loop-block.block * 27) (omega (arith, c.loop-block-test.false)) c.loop-block.invariant
