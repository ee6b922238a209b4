use Rattle.std.proofs.Common.{◌≡◌, ◌+◌, take, map, refl, sym, subst, ap, ◌∙◌}
use Rattle.ring.specs.Size.{AtMost}
use Rattle.lists.proofs.Members.{member_read}
use Rattle.matrix3.specs.Matrices.{EachEntry}
use Rattle.matrix3.proofs.FitsBySize.{adjugate_fits, adjugate_size}
use Rattle.op_group.specs.Views.{operation_of}
use Rattle.group_match.specs.declared.pair.Matched.{Matched}
use Rattle.group_match.specs.Matching.{conjugate, AreCarried}
use Rattle.group_match.proofs.Loops.{carried_more}
use Rattle.crystal_spec.specs.Matrices.{product}
use Rattle.group_match.proofs.pair.paired.Goals as goal

pub adjugate-adjugate-requires-clause-fits : goal.adjugate-adjugate-requires-clause-fits
adjugate-adjugate-requires-clause-fits c = adjugate_fits c.args.p.now c.requires.p tt

pub conjugated-v-requires-clause-adjugate : goal.conjugated-v-requires-clause-adjugate
conjugated-v-requires-clause-adjugate c = subst (EachEntry (AtMost 2)) (sym c.adjugate-adjugate.ensures.value) (adjugate_size c.args.p.now c.requires.p)

pub conjugated-v-requires-clause-c : goal.conjugated-v-requires-clause-c
conjugated-v-requires-clause-c c =
    c.requires.small c.source-item.result (member_read c.args.sources.now c.loop-source.source-index c.source-item.result c.loop-source-test.true c.source-item.is)

pub returns-in-None-clause-absent : goal.returns-in-None-clause-absent
returns-in-None-clause-absent c =
    let p = c.args.p.now in
    let s = c.source-item.result in
    let is : c.conjugated-v.result ≡ conjugate p s.inner = c.conjugated-v.ensures ∙ ap (product (product p s.inner)) c.adjugate-adjugate.ensures.value in
    record {
      source = s;
      of_list = member_read c.args.sources.now c.loop-source.source-index s c.loop-source-test.true c.source-item.is;
      none = λ o m em. c.in-None.ensures.absent o m (em ∙ sym is);
    }

pub loop-source-preserved : goal.loop-source-preserved
loop-source-preserved c =
    let p = c.args.p.now in
    let m = map operation_of c.args.found.now in
    let s = c.source-item.result in
    let i = c.loop-source.source-index in
    let is : c.conjugated-v.result ≡ conjugate p s.inner = c.conjugated-v.ensures ∙ ap (product (product p s.inner)) c.adjugate-adjugate.ensures.value in
    let x : Matched = record { member = c.in-Some.member; source = s.op } in
    subst (AreCarried p m (take (i + 1) c.args.sources.now)) (sym c.in_ok-push-in-Some.ensures.items)
    (carried_more p m c.args.sources.now i s c.loop-source.pairs.items x c.loop-source-test.true c.source-item.is (record { member = c.in-Some.ensures.member; matrix = c.in-Some.ensures.matrix ∙ is; sign = c.in-Some.ensures.sign; source = refl }) c.loop-source.invariant)
